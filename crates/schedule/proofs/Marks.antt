-- Which touches are kept, told by the table of last touches, and the loop that marks them.
use Prim.Native.Nat.{ℕ, ◌+◌, ◌-◌, ◌*◌, ◌≤◌, ◌<◌}
use mathlib.Core.Path.{◌≡◌, refl, sym, ◌∙◌}
use mathlib.Core.Bool.{Bool, true, false, cond}
use mathlib.Core.List.{List}
use mathlib.Core.Option.{none, some}
use native.Mathlib.Omega.{arith}
use native.Mathlib.Numerals.{add-one}
use lib.ListN.{length, get_or, take, set, length-set, replicate, length-replicate}
use lib.Seq.{get_or-take, get_or-set_same, get_or-set_other}
use borrow.Author.Count.{below_more}
use lib.Dec.{leb}
use Rattle.model.specs.Traces.{Trace, segs, steps, entry, size_of}
use Rattle.model.specs.Costs.{swap_cost, retention, keeps}
use Rattle.model.specs.Figures.{of_time, is_reuse, kept}
use Rattle.model.specs.Schedules.{optimal_schedule}
use Rattle.model.specs.Decisions.{decided_schedule, decisions_of}
use Rattle.model.specs.declared.PriceRow.{PriceRow}
use Rattle.model.specs.LastTouches.{last_table}
use Rattle.model.proofs.Touches.{entry-ref}
use Rattle.model.proofs.LastTouches.{last_table-step, last_table-idle, last-time}
use Rattle.model.proofs.Optimal.{decisions-optimal}
use Rattle.schedule.specs.inner.Writing.{kept_by, KeptMarks}

-- the mark in the table tells whether a touch is kept
pub kept-mark : (T : Trace) (row : PriceRow) (t i : ℕ) → i < 256 → t < 65535
    → kept_by T.kind T.a row (size_of T i) (get_or (last_table T t) i 0) t ≡ kept T row.h row.d t i
unfolding kept
kept-mark T row t i li lt = rw (← last-time T t i 0 li lt) (go (leb (get_or (last_table T t) i 0) t) (t - get_or (last_table T t) i 0))
  where
    w : ℕ
    w = row.h * swap_cost T.a (size_of T i)

    r : ℕ → ℕ
    r k = retention T.kind (size_of T i) k

    go : (b : Bool) (k : ℕ)
        → cond b (keeps (row.d * r k) w) false
        ≡ cond (is_reuse (cond b (some k) none)) (keeps (row.d * of_time r (cond b (some k) none)) w) false
    go true k = refl
    go false k = refl

-- after t steps: the steps before are marked, and the table of last touches is that of t steps
pub record Marked (T : Trace) (row : PriceRow) (marks : List Bool) (last : List ℕ) (t : ℕ) : Type 0 where
  pub within : t ≤ steps T
  pub whole : length marks ≡ 2048
  pub marked : (k : ℕ) → k < t → entry T k < segs T → get_or marks k false ≡ kept T row.h row.d k (entry T k)
  pub last_is : last ≡ last_table T t

-- from any start, and with steps that touch nothing
module _ (T : Trace) (row : PriceRow) (few : segs T ≤ 256) (short : steps T ≤ 2048) where
  pub marked_start : (last : List ℕ) → last ≡ last_table T 0 → Marked T row (replicate 2048 false) last 0
  marked_start last e =
      record {
        within = omega arith;
        whole = length-replicate 2048 false;
        marked = λ k lt touch. absurd (omega arith);
        last_is = e;
      }

  pub marked_step : (marks : List Bool) (last : List ℕ) (t i : ℕ) (x : Bool) → Marked T row marks last t → t < steps T
      → i ≡ get_or T.entries t 0 → i < segs T → x ≡ kept_by T.kind T.a row (size_of T i) (get_or last i 0) t
      → Marked T row (set marks t x) (set last i (t + 1)) (t + 1)
  marked_step marks last t i x v lt ei is-segment ex =
      let e : entry T t ≡ i = entry-ref T t lt ∙ sym ei in
      let here : x ≡ kept T row.h row.d t (entry T t) =
      ex ∙ rw (v.last_is, e) (kept-mark T row t i (omega arith) (omega arith))
      in
      record {
        within = omega arith;
        whole = length-set marks t x ∙ v.whole;
        marked =
            below_more
            (λ k. entry T k < segs T → get_or (set marks t x) k false ≡ kept T row.h row.d k (entry T k))
            t
            (λ k l touch. get_or-set_other marks t k x false (λ s. omega arith) ∙ v.marked k l touch)
            (λ touch. get_or-set_same marks t x false (omega (arith, v.whole)) ∙ here);
        last_is = rw (v.last_is, add-one t, ← e) (last_table-step T t (omega (arith, e)) few);
      }

  -- a step that touches nothing
  pub marked_idle : (marks : List Bool) (last : List ℕ) (t : ℕ) → Marked T row marks last t → t < steps T
      → segs T ≤ get_or T.entries t 0 → Marked T row marks last (t + 1)
  marked_idle marks last t v lt idle =
      let e : entry T t ≡ get_or T.entries t 0 = entry-ref T t lt in
      record {
        within = omega arith;
        whole = v.whole;
        marked =
            below_more
            (λ k. entry T k < segs T → get_or marks k false ≡ kept T row.h row.d k (entry T k))
            t
            (λ k l touch. v.marked k l touch)
            (λ touch. absurd (omega (arith, e)));
        last_is = rw (add-one t) (v.last_is ∙ last_table-idle T t (omega (arith, e)));
      }

-- the schedule by the marks of the kept touches is the optimal one
pub marks-optimal : (T : Trace) (row : PriceRow) (marks : List Bool) → KeptMarks T row marks
    → decided_schedule T (decisions_of (take (steps T) marks)) ≡ optimal_schedule T row.h row.d
marks-optimal T row marks told =
    decisions-optimal T row.h row.d (take (steps T) marks)
    (λ t lt touch. get_or-take (steps T) marks t false lt ∙ told t lt touch)
