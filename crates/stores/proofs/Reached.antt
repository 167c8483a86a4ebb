-- The schedule of the least total is permitted, and its total with stores counted is modtotal. The lower bound gives one side, the other is
-- proved by a potential, what the schedule has paid so far for what it holds.
use Prim.Native.Nat.{ℕ, zero, suc, ◌+◌, ◌-◌, ◌*◌, ◌≤◌, ◌<◌}
use mathlib.Core.Path.{◌≡◌, refl, sym, ◌∙◌}
use mathlib.Core.Bool.{Bool, true, false, cond, ◌&&◌, ◌||◌, false≢true, or-true}
use mathlib.Core.Option.{Option, none, some}
use native.Mathlib.Omega.{arith}
use Rattle.model.specs.Traces.{Trace, segs, steps, touched, swap_of, unit_of, unreferenced}
use Rattle.model.specs.Figures.{is_reuse, kept}
use Rattle.model.specs.Schedules.{held, Permitted}
use Rattle.model.proofs.Sums.{sum-zero}
use Rattle.model.proofs.Touches.{touched-below, unreferenced-none, unreferenced-touched, unreferenced-later, reuse-later}
use Rattle.model.proofs.DoubleSums.{potential-ge}
use Rattle.model.proofs.Decisions.{length-held_bytes, held_bytes_lem}
use Rattle.stores.specs.Modtotal.{excess, plus, since_mark, since_through, store_cost, modtotal}
use Rattle.stores.specs.Modtotal.{joins, joins_before, next_marked, mod_held, mod_schedule}
use Rattle.stores.specs.Stays.{modifies, marked_total}
use Rattle.stores.specs.inner.Marks.{dirty}
use Rattle.stores.proofs.LowerBound.{mod_cost, modtotal-touches, cost_cell, total-cells, marked-lower-bound}
use Rattle.stores.proofs.Nexts.{next, next-step, next-end, next_kept-reuse, next_mark, mark-step, mark-end}
use Rattle.stores.proofs.Paid.{paid, one-step}
use Rattle.stores.proofs.Stays.{total-by-marks}

or_left : (a b : Bool) → a ≡ true → a || b ≡ true
or_left a b e = rw e

pub or_right : (a b : Bool) → b ≡ true → a || b ≡ true
or_right a b e = rw e (or-true a)

-- a joined touch has a modifying touch before it
joins-some : (hw x : ℕ) (e : Option ℕ) → joins hw (plus e x) ≡ true → is_reuse e ≡ true
joins-some hw x none j = j
joins-some hw x (some e) j = refl

plus-some : (e : Option ℕ) (x : ℕ) → is_reuse (plus e x) ≡ true → is_reuse e ≡ true
plus-some none x r = r
plus-some (some e) x r = refl

module _ (T : Trace) (marks : ℕ → Bool) (h d : ℕ) where
  since-step : (t i : ℕ)
      → since_mark T marks h d (suc t) i
      ≡ cond (touched T t i) (cond (marks t) (some 0) (since_through T marks h d t i)) (since_mark T marks h d t i)
  unfolding since_mark
  since-step t i = refl

  -- from place t on, the next modifying touch of segment i is joined
  abbrev pub next_join : ℕ → ℕ → Bool
  next_join t i = next_mark T marks (joins_before T marks h d) t i

  -- only after a modifying touch the next one is joined
  joined-since : (k t i : ℕ) → next_marked T marks (joins_before T marks h d) k t i ≡ true → is_reuse (since_mark T marks h d t i) ≡ true
  unfolding next_marked joins_before
  joined-since zero t i e = absurd (false≢true e)
  joined-since (suc k) t i e = go (touched T t i) refl (marks t) refl e (joined-since k (suc t) i)
    where
      go : (m : Bool) → touched T t i ≡ m → (g : Bool) → marks t ≡ g
          → cond (m && g) (joins_before T marks h d t i) (next_marked T marks (joins_before T marks h d) k (suc t) i) ≡ true
          → (next_marked T marks (joins_before T marks h d) k (suc t) i ≡ true → is_reuse (since_mark T marks h d (suc t) i) ≡ true)
          → is_reuse (since_mark T marks h d t i) ≡ true
      go true m true g e again = joins-some (h * swap_of T i) (excess T h d t i) (since_mark T marks h d t i) e
      go true m false g e again =
          plus-some (since_mark T marks h d t i) (excess T h d t i) (rw (since-step t i, m, g) at (again e))
      go false m b g e again = rw (since-step t i, m) at (again e)

  -- and then the segment was touched
  since-touched : (t i : ℕ) → is_reuse (since_mark T marks h d t i) ≡ true → is_reuse (unreferenced T t i) ≡ true
  unfolding since_mark
  since-touched zero i e = absurd (false≢true e)
  since-touched (suc t) i e = go (touched T t i) refl e (since-touched t i)
    where
      go : (m : Bool) → touched T t i ≡ m
          → is_reuse (cond m (cond (marks t) (some 0) (since_through T marks h d t i)) (since_mark T marks h d t i)) ≡ true
          → (is_reuse (since_mark T marks h d t i) ≡ true → is_reuse (unreferenced T t i) ≡ true) → is_reuse (unreferenced T (suc t) i)
          ≡ true
      go true m e again = rw (unreferenced-touched T t i m)
      go false m e again = rw (unreferenced-later T t i m) (reuse-later (unreferenced T t i) ∙ again e)

  -- a segment whose next touch is kept or whose next modifying touch is joined was touched before
  next-reuse : (t i : ℕ) → next T h d t i || next_join t i ≡ true → is_reuse (unreferenced T t i) ≡ true
  next-reuse t i e = go (next T h d t i) refl e
    where
      go : (n : Bool) → next T h d t i ≡ n → n || next_join t i ≡ true → is_reuse (unreferenced T t i) ≡ true
      go true n e = next_kept-reuse T h d (steps T - t) t i n
      go false n e = since-touched t i (joined-since (steps T - t) t i e)

  -- the bytes hold what the schedule holds
  pub held-mod : (t i : ℕ) → t < steps T → i < 256 → held T (mod_schedule T marks h d) (suc t) i ≡ mod_held T marks h d t i
  unfolding mod_schedule
  held-mod t i lt l = held_bytes_lem T (mod_held T marks h d) t i lt l

  abbrev S : ℕ → ℕ → Bool
  S = held T (mod_schedule T marks h d)

  -- so it is held after t steps
  next-held : (t i : ℕ) → t ≤ steps T → i < 256 → next T h d t i || next_join t i ≡ true → S t i ≡ true
  unfolding held mod_held
  next-held zero i le l e = start (T.start i) (rw (unreferenced-none T i) at (next-reuse 0 i e))
    where
      start : (b : Bool) → is_reuse (cond b (some 0) none) ≡ true → b ≡ true
      start true r = refl
      start false r = r
  next-held (suc t) i le l e = held-mod t i le l ∙ or_right (touched T t i) (next T h d (suc t) i || next_join (suc t) i) e

  -- and a segment whose next modifying touch is joined is modified
  joined-dirty : (t i : ℕ) → t ≤ steps T → i < 256 → next_join t i ≡ true → dirty T marks S t i ≡ true
  unfolding dirty since_mark
  joined-dirty zero i le l e = absurd (false≢true (joined-since (steps T - 0) 0 i e))
  joined-dirty (suc t) i le l e =
      rw (next-held (suc t) i le l (or_right (next T h d (suc t) i) (next_join (suc t) i) e))
      (go (modifies T marks t i) refl (joined-dirty t i (omega arith) l))
    where
      go : (m : Bool) → modifies T marks t i ≡ m → (next_join t i ≡ true → dirty T marks S t i ≡ true) → m || dirty T marks S t i ≡ true
      go true m again = refl
      go false m again = again (mark-step T marks (joins_before T marks h d) t i le ∙ rw m e)

  -- the schedule is permitted
  pub mod-permitted : segs T ≤ 256 → Permitted T (mod_schedule T marks h d)
  unfolding mod_held mod_schedule
  mod-permitted few =
      record {
        whole = length-held_bytes (steps T) (mod_held T marks h d);
        touched_held = λ t i lt m. held-mod t i lt (omega (arith, touched-below T t i m)) ∙ rw m;
        others_stay = λ t i lt l m e.
            next-held t i (omega arith) l
            (rw (next-step T h d t i lt, mark-step T marks (joins_before T marks h d) t i lt, m) (sym (held-mod t i lt l ∙ rw m) ∙ e));
      }

  -- what it has paid so far
  abbrev so_far : ℕ → ℕ → ℕ
  so_far t i = paid d (unit_of T i) (unreferenced T t i) (since_mark T marks h d t i) (next_join t i) (next T h d t i)

  so_far-step : (t i : ℕ) → t < steps T → i < 256
      → cost_cell T marks h d S t i + so_far t i ≤ mod_cost T marks h d t i + so_far (suc t) i
  unfolding kept store_cost since_mark unreferenced joins_before mod_held
  so_far-step t i lt l =
      let marked = mark-step T marks (joins_before T marks h d) t i lt in
      rw (held-mod t i lt l, next-step T h d t i lt, marked)
      (one-step h d (unit_of T i) (swap_of T i) (unreferenced T t i) (since_mark T marks h d t i) (touched T t i) (marks t) (S t i)
      (dirty T marks S t i) (next T h d (suc t) i) (next_join (suc t) i)
      (λ m k. next-held t i (omega arith) l (or_left (next T h d t i) (next_join t i) (next-step T h d t i lt ∙ rw m k)))
      (λ j. next-held t i (omega arith) l (or_right (next T h d t i) (next_join t i) (marked ∙ j)))
      (λ j. joined-dirty t i (omega arith) l (marked ∙ j))
      (λ m g j. joined-since (steps T - t) t i (marked ∙ rw (m, g) j))
      (λ m e. rw (unreferenced-later T t i m) at (next-reuse (suc t) i e)))

  -- its total is modtotal
  pub mod-total : segs T ≤ 256 → marked_total T marks h d (mod_schedule T marks h d) ≡ modtotal T marks h d
  mod-total few =
      omega (
        arith,
        marked-lower-bound T marks h d (mod_schedule T marks h d) (mod-permitted few) few,
        modtotal-touches T marks h d,
        potential-ge (steps T) (segs T) (cost_cell T marks h d S) (mod_cost T marks h d) so_far
            (λ t i lt l. so_far-step t i lt (omega arith)),
        sum-zero (segs T) (so_far (steps T)) (λ i l. rw (next-end T h d i, mark-end T marks (joins_before T marks h d) i)),
        total-cells T marks h d S,
        total-by-marks T marks h d (mod_schedule T marks h d) (mod-permitted few),
      )
