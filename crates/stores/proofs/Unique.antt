-- A permitted schedule with the total and the load of the one written holds the same segments in every step, so that the last part of
-- the rule for ties has nothing to decide.
use Prim.Native.Nat.{ℕ, zero, suc, ◌+◌, ◌-◌, ◌*◌, ◌≤◌, ◌<◌}
use mathlib.Core.Path.{◌≡◌, refl, sym, ◌∙◌}
use mathlib.Core.Bool.{Bool, true, false, cond, false≢true}
use mathlib.Core.List.{List}
use mathlib.Core.Option.{Option, none, some}
use native.Mathlib.Omega.{arith}
use native.Mathlib.Nat.{mul-le-mul_left}
use lib.Dec.{ltb}
use borrow.Author.Tests.{leb-true, ltb-true, ltb-false}
use Rattle.model.specs.Costs.{total_cost}
use Rattle.model.specs.Sums.{sum}
use Rattle.model.specs.Traces.{Trace, segs, steps, touched, swap_of, unit_of, later, unreferenced}
use Rattle.model.specs.Figures.{is_reuse, kept}
use Rattle.model.specs.Schedules.{held, Permitted}
use Rattle.model.proofs.Bounds.{product-within}
use Rattle.model.proofs.Sums.{sum-zero, term-le}
use Rattle.model.proofs.Touches.{touched-beyond, unreferenced-later}
use Rattle.model.proofs.DoubleSums.{double_sum, double-add, double-tight, telescope, potential-le}
use Rattle.model.proofs.LowerBound.{least_cost, least_at, touch-least, memory_of, load_of}
use Rattle.stores.specs.Modtotal.{since_mark, since_through, or_store, store_cost, modtotal, joins, joins_before, mod_held, mod_schedule}
use Rattle.stores.specs.Stays.{marked_load, marked_total}
use Rattle.stores.specs.inner.Marks.{dirty, stores_at_marks}
use Rattle.stores.proofs.LowerBound.{excess_of, worth, dirty-held, mod_cost, modtotal-touches, cost_cell, total-cells}
use Rattle.stores.proofs.LowerBound.{potential, potential-start, potential-step}
use Rattle.stores.proofs.Nexts.{next, next-step, next-end, next_kept-beyond, mark-step, mark-end, next_marked-beyond}
use Rattle.stores.proofs.Paid.{is_kept}
use Rattle.stores.proofs.Reached.{next_join, held-mod, mod-total}
use Rattle.stores.proofs.LeastLoad.{Close, kept_same, through-scaled, joined_same, mod_held-same, schedule-same, scale, scale-big}
use Rattle.stores.proofs.Stays.{total-by-marks}
use Rattle.stores.proofs.Tight.{Tight, Before, After, before-step, after-step, not-true}

-- in a sum that is 0 nothing positive is there
nothing-there : (b q : Bool) (x y : ℕ) → cond b x 0 + cond q y 0 ≡ 0 → (b ≡ true → 0 < x → ⊥) × (q ≡ true → 0 < y → ⊥)
nothing-there true true x y e = (λ _ some-x. omega arith, λ _ some-y. omega arith)
nothing-there true false x y e = (λ _ some-x. omega arith, λ q. absurd (false≢true q))
nothing-there false true x y e = (λ b. absurd (false≢true b), λ _ some-y. omega arith)
nothing-there false false x y e = (λ b. absurd (false≢true b), λ q. absurd (false≢true q))

-- the next touch costs something after a step without one
least-some : (u w : ℕ) (o : Option ℕ) → 0 < u → 0 < w → is_reuse o ≡ true → 0 < least_cost u w (later o)
unfolding later
least-some u w none some-u some-w r = absurd (false≢true r)
least-some u w (some k) some-u some-w r = omega arith

-- S starts as the run does, holds what is touched, adds no untouched segment, and its total is at most modtotal
module _ (T : Trace) (marks : ℕ → Bool) (h d : ℕ) (S : ℕ → ℕ → Bool)
    (starts : (i : ℕ) → i < segs T → S 0 i ≡ T.start i)
    (stays : (t i : ℕ) → t < steps T → i < segs T → touched T t i ≡ false → S (suc t) i ≡ true → S t i ≡ true)
    (holds : (t i : ℕ) → t < steps T → touched T t i ≡ true → S (suc t) i ≡ true)
    (within : total_cost h d (memory_of T S) (load_of T S + stores_at_marks T marks S) ≤ modtotal T marks h d) where
  abbrev after : ℕ → ℕ → ℕ
  after t i = mod_cost T marks h d t i + potential T marks h d S (suc t) i

  abbrev before : ℕ → ℕ → ℕ
  before t i = cost_cell T marks h d S t i + potential T marks h d S t i

  start-zero : sum (segs T) (potential T marks h d S 0) ≡ 0
  start-zero = sum-zero (segs T) (potential T marks h d S 0) (potential-start T marks h d S starts stays)

  cells-within : double_sum (steps T) (segs T) (cost_cell T marks h d S) ≤ double_sum (steps T) (segs T) (mod_cost T marks h d)
  cells-within = omega (arith, within, total-cells T marks h d S, modtotal-touches T marks h d)

  -- no step has a loss
  no-loss : (t i : ℕ) → t < steps T → i < segs T → after t i ≡ before t i
  no-loss =
      double-tight (steps T) (segs T) after before (potential-step T marks h d S starts stays)
      (omega (
        arith,
        double-add (steps T) (segs T) (mod_cost T marks h d) (λ t i. potential T marks h d S (suc t) i),
        double-add (steps T) (segs T) (cost_cell T marks h d S) (potential T marks h d S),
        telescope (steps T) (λ t. sum (segs T) (potential T marks h d S t)),
        start-zero,
        cells-within,
      ))

  -- nor the end
  no-loss-end : (i : ℕ) → i < segs T → potential T marks h d S (steps T) i ≡ 0
  no-loss-end i l =
      omega (
        arith,
        term-le (segs T) i (potential T marks h d S (steps T)) l,
        potential-le (steps T) (segs T) (mod_cost T marks h d) (cost_cell T marks h d S) (potential T marks h d S)
            (potential-step T marks h d S starts stays),
        start-zero,
        cells-within,
      )

  -- of one segment, at prices at which no decision ties
  module _ (i : ℕ) (l : i < segs T) (some-u : 0 < d * unit_of T i) (some-w : 0 < h * swap_of T i)
      (strict-k : (t : ℕ) → t < steps T → kept T h d t i ≡ true → least_at T h d t i < h * swap_of T i)
      (strict-j : (t : ℕ) → t < steps T → joins_before T marks h d t i ≡ true → store_cost T marks h d t i < h * swap_of T i) where
    tight : (t : ℕ) → t < steps T
        → Tight h d (unit_of T i) (swap_of T i) (unreferenced T t i) (since_mark T marks h d t i) (touched T t i) (marks t)
        (S t i) (S (suc t) i) (dirty T marks S t i)
    unfolding unreferenced dirty since_mark store_cost
    tight t lt = rw (touch-least T h d t i) at (no-loss t i lt l)

    all-before : (t : ℕ) → t ≤ steps T
        → Before h d (unit_of T i) (swap_of T i) (unreferenced T t i) (since_mark T marks h d t i) (S t i) (dirty T marks S t i)
    unfolding unreferenced dirty since_mark
    all-before zero le =
        rw (starts i l) (record {
          seen = λ e. start_seen (T.start i) e;
          over = λ e x. absurd (start-over (T.start i) x);
          can_join = λ e. absurd (false≢true e);
        })
      where
        start_seen : (b : Bool) → b ≡ true → is_reuse (cond b (some 0) none) ≡ true
        start_seen true e = refl
        start_seen false e = e

        start-over : (b : Bool) → 0 < excess_of h d (unit_of T i) (swap_of T i) (cond b (some 0) none) → ⊥
        start-over true x = omega arith
        start-over false x = omega arith
    all-before (suc t) le =
        before-step h d (unit_of T i) (swap_of T i) (unreferenced T t i) (since_mark T marks h d t i) some-u some-w (touched T t i)
        (marks t)
        (S t i) (S (suc t) i) (dirty T marks S t i) (stays t i le l) (all-before t (omega arith)) (tight t le)

    all_after : (k t : ℕ) → t + k ≡ steps T
        → After h d (unit_of T i) (swap_of T i) (unreferenced T t i) (since_mark T marks h d t i) (S t i) (dirty T marks S t i)
        (next T h d t i) (next_join T marks h d t i)
    unfolding unreferenced dirty since_mark kept joins_before store_cost
    all_after zero t e =
        let done : t ≡ steps T = omega arith in
        rw done (record {
          out_dropped = λ y. next-end T h d i;
          clean_apart = λ y. mark-end T marks (joins_before T marks h d) i;
          dirty_joined = λ y x. absurd (nothing.1 y x);
          held_kept = λ y x. absurd (nothing.0 y x);
        })
      where
        nothing : (S (steps T) i ≡ true → 0 < least_at T h d (steps T) i → ⊥)
            × (dirty T marks S (steps T) i ≡ true
            → 0 < worth h d (unit_of T i) (swap_of T i) (unreferenced T (steps T) i) (since_mark T marks h d (steps T) i) → ⊥)
        nothing =
            nothing-there (S (steps T) i) (dirty T marks S (steps T) i) (least_at T h d (steps T) i)
            (worth h d (unit_of T i) (swap_of T i) (unreferenced T (steps T) i) (since_mark T marks h d (steps T) i)) (no-loss-end i l)
    all_after (suc k) t e =
        let lt : t < steps T = omega arith in
        rw (next-step T h d t i lt, mark-step T marks (joins_before T marks h d) t i lt)
        (after-step h d (unit_of T i) (swap_of T i) (unreferenced T t i) (since_mark T marks h d t i) some-u some-w (touched T t i)
        (marks t)
        (S t i) (S (suc t) i) (dirty T marks S t i) (next T h d (suc t) i) (next_join T marks h d (suc t) i) (stays t i lt l)
        (holds t i lt) (dirty-held T marks S t i) (strict-k t lt) (strict-j t lt) (all-before t (omega arith)) (tight t lt)
        (all_after k (suc t) (omega arith)))

    -- S holds what the schedule written holds
    pub same : (t : ℕ) → t < steps T → S (suc t) i ≡ mod_held T marks h d t i
    unfolding mod_held
    same t lt = go (touched T t i) refl (S (suc t) i) refl
      where
        later-than : After h d (unit_of T i) (swap_of T i) (unreferenced T (suc t) i) (since_mark T marks h d (suc t) i) (S (suc t) i)
            (dirty T marks S (suc t) i) (next T h d (suc t) i) (next_join T marks h d (suc t) i)
        later-than = all_after (steps T - suc t) (suc t) (omega arith)

        go : (m : Bool) → touched T t i ≡ m → (c : Bool) → S (suc t) i ≡ c → S (suc t) i ≡ mod_held T marks h d t i
        go true m b c = holds t i lt m ∙ rw m
        go false m true c =
            c
            ∙ rw m (sym (later-than.held_kept c (rw (unreferenced-later T t i m)
            (least-some (d * unit_of T i) (h * swap_of T i) (unreferenced T t i) some-u some-w
            ((all-before t (omega arith)).seen (stays t i lt l m c))))))
        go false m false c =
            c
            ∙ rw (
              m,
              later-than.out_dropped c,
              later-than.clean_apart (not-true (dirty T marks S (suc t) i) (λ y. false≢true (sym c ∙ dirty-held T marks S (suc t) i y))),
            )

-- at the prices M × h + 1 and M × d no decision ties
strict-keep : (M h d u w : ℕ) (o : Option ℕ) → 0 < w → is_kept h d u w o ≡ true
    → least_cost (M * d * u) ((M * h + 1) * w) o < (M * h + 1) * w
strict-keep M h d u w none pos k = absurd (false≢true k)
strict-keep M h d u w (some n) pos k = omega (arith, mul-le-mul_left M (leb-true (d * (n * u)) (h * w) k))

strict-join : (M h w n : ℕ) (e e' : Option ℕ) → 0 < w → Close M w n e e' → joins (h * w) e ≡ true
    → or_store ((M * h + 1) * w) e' < (M * h + 1) * w
strict-join M h w n none none pos c j = absurd (false≢true j)
strict-join M h w n none (some y') pos c j = absurd c
strict-join M h w n (some y) none pos c j = absurd c
strict-join M h w n (some y) (some y') pos c j = omega (arith, c.above, mul-le-mul_left M (leb-true y (h * w) j))

-- a permitted schedule with at most the total and the load of the schedule written holds the same in every step, where d and every size
-- are not 0 and only segments are warm
module _ (T : Trace) (marks : ℕ → Bool) (h d : ℕ) (few : segs T ≤ 256) (some_d : 0 < d)
    (some-unit : (i : ℕ) → i < segs T → 0 < unit_of T i) (warm : (i : ℕ) → segs T ≤ i → T.start i ≡ false)
    (p : List ℕ) (ok : Permitted T p) (total : marked_total T marks h d p ≤ modtotal T marks h d)
    (load : marked_load T marks p ≤ marked_load T marks (mod_schedule T marks h d)) where
  scaled-total : marked_total T marks (scale T * h + 1) (scale T * d) p ≤ modtotal T marks (scale T * h + 1) (scale T * d)
  unfolding marked_total
  scaled-total =
      let M = scale T in
      let there = rw (schedule-same T marks h d M (scale-big T)) at (mod-total T marks (M * h + 1) (M * d) few) in
      omega (arith, there, mul-le-mul_left M below)
    where
      below : marked_total T marks h d p ≤ marked_total T marks h d (mod_schedule T marks h d)
      below = rw (mod-total T marks h d few) total

  pub same_segment : (t i : ℕ) → t < steps T → i < segs T → held T p (suc t) i ≡ mod_held T marks h d t i
  unfolding held kept joins_before store_cost
  same_segment t i lt l =
      same T marks (M * h + 1) (M * d) (held T p) (λ i lt. refl) (λ t i lt l. ok.others_stay t i lt (omega arith)) ok.touched_held
      (rw (total-by-marks T marks (M * h + 1) (M * d) p ok) at scaled-total) i l some-units (omega arith)
      (λ t lt k. strict-keep M h d (unit_of T i) (swap_of T i) (unreferenced T t i) (omega arith)
      (sym (kept_same T marks h d M (scale-big T) t i l) ∙ k))
      (λ t lt j. strict-join M h (swap_of T i) (suc t) (since_through T marks h d t i) (since_through T marks (M * h + 1) (M * d) t i)
      (omega arith) (through-scaled T marks h d M (scale-big T) t i l) (sym (joined_same T marks h d M (scale-big T) t i lt l) ∙ j))
      t lt
      ∙ mod_held-same T marks h d M (scale-big T) t i lt
    where
      M : ℕ
      M = scale T

      some-units : 0 < M * d * unit_of T i
      some-units = omega (arith, mul-le-mul_left M (product-within 1 1 d (unit_of T i) some_d (some-unit i l)))

  -- what is no segment is held by neither
  beyond : (t i : ℕ) → t ≤ steps T → i < 256 → segs T ≤ i → held T p t i ≡ false
  unfolding held
  beyond zero i le l b = warm i b
  beyond (suc t) i le l b =
      not-true (held T p (suc t) i)
      (λ y. false≢true (sym (beyond t i (omega arith) l b) ∙ ok.others_stay t i le l (touched-beyond T t i b) y))

  pub same-held : (t i : ℕ) → t < steps T → i < 256 → held T p (suc t) i ≡ held T (mod_schedule T marks h d) (suc t) i
  unfolding mod_held
  same-held t i lt l = go (ltb i (segs T)) refl ∙ sym (held-mod T marks h d t i lt l)
    where
      go : (b : Bool) → ltb i (segs T) ≡ b → held T p (suc t) i ≡ mod_held T marks h d t i
      go true e = same_segment t i lt (ltb-true i (segs T) e)
      go false e =
          let b = ltb-false i (segs T) e in
          beyond (suc t) i lt l b
          ∙ rw (
            touched-beyond T t i b,
            next_kept-beyond T h d (steps T - suc t) (suc t) i b,
            next_marked-beyond T marks (joins_before T marks h d) (steps T - suc t) (suc t) i b,
          )
