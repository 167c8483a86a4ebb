-- What request F-13 says of a run with modifying touches, as one statement: demand 3 of document 01 with stores counted, and the rule for
-- ties.
use Rattle.std.specs.Prelude.{ℕ, suc, ◌≤◌, ◌<◌, ◌≡◌, Bool, true, false, List}
use Rattle.model.specs.Traces.{Trace, steps}
use Rattle.model.specs.Figures.{opttotal}
use Rattle.model.specs.Schedules.{held, Permitted}
use Rattle.model.specs.Sheets.{most_segs}
use Rattle.stores.specs.Modtotal.{modtotal, mod_schedule}
use Rattle.stores.specs.Stays.{marked_load, marked_total}

-- p and q hold the same segments in the steps before place t, and of the segments below i in the step at place t
pub record SameUpTo (T : Trace) (p q : List ℕ) (t i : ℕ) : Type 0 where
  pub earlier : (s k : ℕ) → s < t → k < most_segs → held T p (suc s) k ≡ held T q (suc s) k
  pub lower : (k : ℕ) → k < i → held T p (suc t) k ≡ held T q (suc t) k

pub record MarkedDemand (T : Trace) (marks : ℕ → Bool) (h d : ℕ) : Type 0 where
  -- no permitted schedule has a total below modtotal
  pub lower : (p : List ℕ) → Permitted T p → modtotal T marks h d ≤ marked_total T marks h d p
  -- the schedule written is permitted, and its total is modtotal
  pub permitted : Permitted T (mod_schedule T marks h d)
  pub total : marked_total T marks h d (mod_schedule T marks h d) ≡ modtotal T marks h d
  -- no permitted schedule of that total has a smaller load, stores counted
  pub least : (p : List ℕ) → Permitted T p → marked_total T marks h d p ≡ modtotal T marks h d
      → marked_load T marks (mod_schedule T marks h d) ≤ marked_load T marks p
  -- against another of that total and load, in the earliest differing step, and there for the lowest differing segment, it holds: where
  -- the two are the same so far and the other holds, it does
  pub holds : (p : List ℕ) → Permitted T p → marked_total T marks h d p ≡ modtotal T marks h d
      → marked_load T marks p ≡ marked_load T marks (mod_schedule T marks h d) → (t i : ℕ) → t < steps T → i < most_segs
      → SameUpTo T p (mod_schedule T marks h d) t i → held T p (suc t) i ≡ true → held T (mod_schedule T marks h d) (suc t) i ≡ true
  -- without a modifying touch modtotal is opttotal
  pub unmarked : ((t : ℕ) → t < steps T → marks t ≡ false) → modtotal T marks h d ≡ opttotal T h d
