-- One step against the step before: what passing one segment more, or a run of segments whose bits did not change, adds.
use Prim.Native.Nat.{ℕ, zero, suc, ◌+◌, ◌<◌}
use mathlib.Core.Path.{◌≡◌, refl, sym, ◌∙◌}
use mathlib.Core.Bool.{Bool, true, false, cond, not, ◌&&◌, ◌||◌}
use mathlib.Core.Logic.{⊎_elim}
use Rattle.model.proofs.Sums.{last-or-below}
use mathlib.Core.List.{List}
use native.Mathlib.Omega.{arith}
use native.Mathlib.Nat.{add-suc, add-zero}
use lib.Dec.{eqb}
use lib.ListN.{get_or}
use Rattle.model.specs.Sums.{sum}
use Rattle.model.specs.Traces.{Trace, segs, steps, touched}
use Rattle.model.specs.Schedules.{held}
use Rattle.model.specs.Pricing.{enters, some_enters}
use Rattle.pricing.specs.inner.Held.{held_of}
use Rattle.pricing.specs.inner.Steps.{Step, Touches}
use Rattle.schedule.specs.inner.Segments.{segment_of, chosen}
use Rattle.schedule.proofs.Segments.{segment-below, touched-segment}
use Rattle.std.specs.Prelude.{Option, Some}
use Rattle.pricing.specs.inner.Passing.{unit_at, leaving, SegmentsPassed, enters_by}

-- tests and costs of which a part is known
still-out : (h m : Bool) → (h && not m) && not h ≡ false
still-out true true = refl
still-out true false = refl
still-out false m = refl

still-in : (h : Bool) (u : ℕ) → cond (h && not h) u 0 ≡ 0
still-in true u = refl
still-in false u = refl

-- a bit that changed is what it was not before
turned-enters : (old m : Bool) → (not old && not m) && not old ≡ not old && not m
turned-enters true m = refl
turned-enters false true = refl
turned-enters false false = refl

turned-leaves : (old : Bool) (u : ℕ) → cond (old && not (not old)) u 0 ≡ cond old u 0
turned-leaves true u = refl
turned-leaves false u = refl

-- what is held is what the start set and the bytes say
module _ (T : Trace) (start p : List ℕ) (s : ℕ) (ok : Step T start p s) where
  pub held-of : (t i : ℕ) → i < 256 → held T p t i ≡ held_of start p t i
  unfolding held held_of
  held-of zero i lt = sym (ok.start_bits i lt)
  held-of (suc t) i lt = refl

-- the segment that a step touches is one of the run's
pub touches-below : (T : Trace) (start p : List ℕ) (t : ℕ) (touched : Option ℕ) (x : ℕ) → Touches T start p t touched → touched ≡ Some x
    → (x < segs T) × (x < 256)
touches-below T start p t touched x ok e =
    let below = segment-below (segs T) (get_or T.entries t 0) x (sym e ∙ ok.is) in
    (below, omega (arith, below, ok.step.limits.segs_within))

module _ (T : Trace) (p : List ℕ) (t : ℕ) where
  -- before the first segment
  pub passed_none : SegmentsPassed T p t 0 0
  unfolding some_enters leaving sum
  passed_none = record { entered = refl; gone = refl }

  -- one segment more
  pub passed-one : (n left r : ℕ) → SegmentsPassed T p t n left → enters T p t n ≡ false
      → r ≡ left + cond (held T p t n && not (held T p (suc t) n)) (unit_at T.kind T.sizes n) 0
      → SegmentsPassed T p t (suc n) r
  unfolding some_enters leaving sum
  passed-one n left r ok out more = record { entered = rw (ok.entered, out); gone = rw (more, ok.gone) }

  -- k segments more that are held as in the step before: nothing changes
  pub passed-run : (k n left : ℕ) → SegmentsPassed T p t n left
      → ((j : ℕ) → j < k → held T p (suc t) (n + j) ≡ held T p t (n + j)) → SegmentsPassed T p t (n + k) left
  unfolding enters
  passed-run zero n left ok same = rw (add-zero n) ok
  passed-run (suc k) n left ok same =
      let here = same k (omega arith) in
      rw (add-suc n k)
      (passed-one (n + k) left left (passed-run k n left ok (λ j l. same j (omega arith)))
      (rw here (still-out (held T p t (n + k)) (touched T t (n + k))))
      (rw here (omega (arith, still-in (held T p t (n + k)) (unit_at T.kind T.sizes (n + k))))))

  -- a segment that enters is one of the first n
  pub some-enters : (n i : ℕ) → i < n → enters T p t i ≡ true → some_enters T p t n ≡ true
  unfolding some_enters
  some-enters zero i lt e = absurd (omega arith)
  some-enters (suc n) i lt e =
      ⊎_elim (λ s. rw (← s, e) (or-true (some_enters T p t i))) (λ l. rw (some-enters n i l e)) (last-or-below n i lt)
    where
      or-true : (o : Bool) → o || true ≡ true
      or-true true = refl
      or-true false = refl

  -- a segment whose bit changed: whether it enters, and what it adds to those that left
  module _ (i : ℕ) (old new : Bool) (few : i < 256) (place : t < steps T) (before : old ≡ held T p t i) (after : new ≡ held T p (suc t) i)
      (turned : new ≡ not old) (touched : Option ℕ) (is : touched ≡ segment_of (segs T) (get_or T.entries t 0)) where
    pub enters-turned : enters T p t i ≡ enters_by old touched i
    unfolding enters
    enters-turned =
        rw (← before, ← after, turned, touched-segment T t i touched place few is)
        (turned-enters old (chosen touched (λ x. eqb x i) false))

    pub leaves-turned : (u : ℕ) → cond (held T p t i && not (held T p (suc t) i)) u 0 ≡ cond old u 0
    leaves-turned u = rw (← before, ← after, turned) (turned-leaves old u)
