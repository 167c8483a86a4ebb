-- The costs step by step: what one step adds, and why nothing overflows.
use Rattle.std.specs.Prelude.{Err}
use Prim.Native.Nat.{ℕ, zero, suc, ◌+◌, ◌-◌, ◌≤◌, ◌<◌, ◌^◌}
use mathlib.Core.Path.{◌≡◌, refl, ap, sym, ◌∙◌}
use mathlib.Core.Bool.{Bool, true, false, cond, not, ◌&&◌, false≢true}
use mathlib.Core.List.{List}
use native.Mathlib.Omega.{arith}
use native.Mathlib.Nat.{add-suc, add-zero}
use lib.Dec.{ltb}
use borrow.Author.Tests.{lt-ltb, le-ltb, ltb-true}
use Rattle.model.specs.Sums.{sum}
use Rattle.model.specs.Traces.{Trace, segs, size_of, unit_of, swap_of, entry, touched, touching}
use Rattle.model.specs.Schedules.{held}
use Rattle.model.specs.Sheets.{RunWithin}
use Rattle.model.specs.declared.Refusal.TheVariants.{TouchedNotHeld, HeldNotBefore}
use Rattle.model.proofs.Bounds.{product-within, unit-within, either-within}
use Rattle.model.proofs.Sums.{sum-suc, sum-eq, sum-add, sum-within}
use Rattle.model.proofs.Touches.{touching-sum}
use Rattle.model.proofs.Loads.{touching-within}
use Rattle.schedule.proofs.Segments.{by-segment}
use Rattle.schedule.specs.inner.Segments.{chosen}
use Rattle.pricing.specs.inner.Held.{held_of}
use Rattle.pricing.proofs.Changing.{held-of, touches-below}
use Rattle.model.specs.Costs.{unit_cost, swap_cost}
use Rattle.std.specs.Prelude.{Option, Some, None}
use Rattle.pricing.specs.declared.step_price.Costs.{Costs}
use Rattle.model.specs.Pricing.{missing, enters, some_enters, step_verdict}
use Rattle.pricing.specs.inner.Steps.{held_cost, memory_through, load_through, Through, Touches}
use Rattle.pricing.specs.inner.Passing.{unit_at, leaving, SegmentsPassed, Moved, lacks, loaded_size}
use Rattle.pricing.proofs.StepFaults.{none-enters, step-accepted, one_more, held-touched}

-- a sum of terms that are 0 from s on
sum-beyond : (k s : ℕ) (f : ℕ → ℕ) → ((i : ℕ) → s ≤ i → f i ≡ 0) → sum (s + k) f ≡ sum s f
sum-beyond zero s f beyond = rw (add-zero s)
sum-beyond (suc k) s f beyond =
    rw (add-suc s k) (omega (arith, sum-suc (s + k) f, sum-beyond k s f beyond, beyond (s + k) (omega arith)))

-- one segment of cost u: m says whether it is touched, old and new whether it is held before and in the step
balance : (old new m : Bool) (u : ℕ) → (m ≡ true → new ≡ true) → (new && not m) && not old ≡ false
    → cond new u 0 + cond (old && not new) u 0 ≡ cond old u 0 + cond m (cond old 0 u) 0
balance old false true u must none = absurd (false≢true (must refl))
balance true true true u must none = refl
balance false true true u must none = omega arith
balance true true false u must none = refl
balance false true false u must none = absurd (false≢true (sym none))
balance true false false u must none = omega arith
balance false false false u must none = refl

module _ (T : Trace) (ok : RunWithin T) (p : List ℕ) where
  -- any segment costs at most 4,095 for one step, and a number that is none costs nothing
  unit_at-within : (i : ℕ) → unit_at T.kind T.sizes i ≤ 4095
  unit_at-within i = go (ltb i (segs T)) refl
    where
      go : (b : Bool) → ltb i (segs T) ≡ b → cond b (unit_of T i) 0 ≤ 4095
      go true e = unit-within T.kind (size_of T i) 4095 (omega arith) (ok.size_within i (ltb-true i (segs T) e))
      go false e = omega arith

  -- what leaves, and what is held, costs at most 256 × 4,095 for one step
  pub leaving-within : (t n : ℕ) → n ≤ 256 → leaving T p t n ≤ 1048320
  unfolding leaving
  leaving-within t n le =
      omega (
        arith,
        sum-within n 4095 (λ i. cond (held T p t i && not (held T p (suc t) i)) (unit_at T.kind T.sizes i) 0)
            (λ i l. either-within (held T p t i && not (held T p (suc t) i)) _ 0 4095 (unit_at-within i) (omega arith)),
      )

  pub passed-within : (t n left : ℕ) → SegmentsPassed T p t n left → n ≤ 256 → left < 2 ^ 40
  passed-within t n left passed le = omega (arith, passed.gone, leaving-within t n le)

  pub held-within : (t : ℕ) → held_cost T p t ≤ 1048320
  unfolding held_cost
  held-within t =
      omega (
        arith,
        ok.segs_within,
        sum-within (segs T) 4095 (λ i. cond (held T p t i) (unit_of T i) 0)
            (λ i l. either-within (held T p t i) _ 0 4095 (unit-within T.kind (size_of T i) 4095 (omega arith) (ok.size_within i l))
            (omega arith)),
      )

  -- what leaves, over the segments alone
  leaving-segs : (t : ℕ) → leaving T p t 256 ≡ sum (segs T) (λ i. cond (held T p t i && not (held T p (suc t) i)) (unit_of T i) 0)
  unfolding leaving
  leaving-segs t =
      let few : segs T + (256 - segs T) ≡ 256 = omega (arith, ok.segs_within) in
      let term : ℕ → ℕ = λ i. cond (held T p t i && not (held T p (suc t) i)) (unit_at T.kind T.sizes i) 0 in
      sym (ap (λ n. sum n term) few)
      ∙ sum-beyond (256 - segs T) (segs T) term (λ i l. rw (le-ltb i (segs T) l) (nothing (held T p t i && not (held T p (suc t) i))))
      ∙ sum-eq (segs T) term (λ i. cond (held T p t i && not (held T p (suc t) i)) (unit_of T i) 0) (λ i l. rw (lt-ltb i (segs T) l))
    where
      nothing : (b : Bool) → ◌≡◌ {A = ℕ} (cond b 0 0) 0
      nothing true = refl
      nothing false = refl

  -- a step without a fault: what is held after it and what left is what was held before and what was loaded
  held-step : (t : ℕ) → missing T p t ≡ false → some_enters T p t 256 ≡ false
      → held_cost T p (suc t) + leaving T p t 256 ≡ held_cost T p t + touching T (λ t i. cond (held T p t i) 0 (unit_of T i)) t
  unfolding held_cost enters
  held-step t found none =
      let new : ℕ → ℕ = λ i. cond (held T p (suc t) i) (unit_of T i) 0 in
      let gone : ℕ → ℕ = λ i. cond (held T p t i && not (held T p (suc t) i)) (unit_of T i) 0 in
      let old : ℕ → ℕ = λ i. cond (held T p t i) (unit_of T i) 0 in
      let loaded : ℕ → ℕ = λ i. cond (touched T t i) (cond (held T p t i) 0 (unit_of T i)) 0 in
      omega (
        arith,
        leaving-segs t,
        sum-add (segs T) new gone,
        sum-add (segs T) old loaded,
        sum-eq (segs T) (λ i. new i + gone i) (λ i. old i + loaded i)
            (λ i l. balance (held T p t i) (held T p (suc t) i) (touched T t i) (unit_of T i) (held-touched T p t i found)
            (none-enters T p t 256 none i (omega (arith, ok.segs_within)))),
        touching-sum T (λ t i. cond (held T p t i) 0 (unit_of T i)) t,
      )

  -- the bounds of memory and load
  pub memory-within : (n : ℕ) → n ≤ 2048 → memory_through T p n < 2 ^ 40
  unfolding memory_through
  memory-within n le = omega (arith, sum-within n 1048320 (λ t. held_cost T p (suc t)) (λ t l. held-within (suc t)))

  pub load_within : (n : ℕ) → n ≤ 2048 → load_through T p n < 2 ^ 40
  unfolding load_through
  load_within n le =
      omega (
        arith,
        touching-within T n 1044226 (λ t i. cond (held T p t i) 0 (swap_of T i))
            (λ t i lt l. either-within (held T p t i) 0 _ 1044226 (omega arith)
            (omega (arith, product-within T.a (size_of T i) 255 4095 ok.a_within (ok.size_within i l)))),
      )

  pub through-within : (n : ℕ) (c : Costs) → n ≤ 2048 → Through T p n c
      → (c.held.0 < 2 ^ 40) × (c.memory.0 < 2 ^ 40) × (c.load.0 < 2 ^ 40)
  through-within n c le done = (
    omega (arith, done.held-cost, held-within n),
    omega (arith, done.memory_cost, memory-within n le),
    omega (arith, done.load_cost, load_within n le),
  )

-- a step that touches that segment, or nothing
module _ (T : Trace) (start p : List ℕ) (t : ℕ) (touched : Option ℕ) (at : Touches T start p t touched) where
  ok : RunWithin T
  ok = at.step.limits

  -- a choice by the segment, told by the start set and the bytes
  told : {A : Type 0} (f g : ℕ → A) (z : A) → ((x : ℕ) → x < 256 → f x ≡ g x) → chosen touched f z ≡ chosen touched g z
  told f g z same = go touched refl
    where
      go : (o : Option ℕ) → touched ≡ o → chosen o f z ≡ chosen o g z
      go None e = refl
      go (Some x) e = same x (touches-below T start p t touched x at e).1

  missing-told : missing T p t ≡ lacks start p t touched
  unfolding missing
  missing-told =
      and-cond (ltb (entry T t) (segs T)) (not (held T p (suc t) (entry T t)))
      ∙ by-segment T t touched at.step.place at.is (λ i. not (held T p (suc t) i)) false
      ∙ told (λ i. not (held T p (suc t) i)) (λ i. not (held_of start p (suc t) i)) false
      (λ x few. ap not (held-of T start p t at.step (suc t) x few))
    where
      and-cond : (a b : Bool) → a && b ≡ cond a b false
      and-cond true b = refl
      and-cond false b = refl

  -- its faults
  pub step-lacks : lacks start p t touched ≡ true → step_verdict T p t ≡ Err TouchedNotHeld
  unfolding step_verdict
  step-lacks e = rw (missing-told, e)

  pub step-enters : lacks start p t touched ≡ false → some_enters T p t 256 ≡ true → step_verdict T p t ≡ Err HeldNotBefore
  unfolding step_verdict
  step-enters e f = rw (missing-told, e, f)

  module _ (c : Costs) (left : ℕ) (done : Through T p t c) (found : SegmentsPassed T p t 256 left) (e : lacks start p t touched ≡ false)
      (loaded : Option ℕ) (size : loaded ≡ loaded_size T.sizes start p t touched) where
    -- what it loads, a segment of size z of cost g z
    loads : (g : ℕ → ℕ) → touching T (λ t i. cond (held T p t i) 0 (g (size_of T i))) t ≡ chosen loaded g 0
    unfolding touching
    loads g =
        by-segment T t touched at.step.place at.is (λ i. cond (held T p t i) 0 (g (size_of T i))) 0
        ∙ told (λ i. cond (held T p t i) 0 (g (size_of T i))) (λ i. cond (held_of start p t i) 0 (g (size_of T i))) 0
        (λ x few. ap (λ b. cond b 0 (g (size_of T x))) (held-of T start p t at.step t x few))
        ∙ go touched
        ∙ ap (λ l. chosen l g 0) (sym size)
      where
        one : (b : Bool) (z : ℕ) → cond b 0 (g z) ≡ chosen (cond b None (Some z)) g 0
        one true z = refl
        one false z = refl

        go : (o : Option ℕ) → chosen o (λ i. cond (held_of start p t i) 0 (g (size_of T i))) 0
            ≡ chosen (loaded_size T.sizes start p t o) g 0
        go None = refl
        go (Some x) = one (held_of start p t x) (size_of T x)

    -- what is held after the step and what left
    moves : held_cost T p (suc t) + left ≡ c.held.0 + chosen loaded (unit_cost T.kind) 0
    moves =
        omega (
          arith,
          done.held-cost,
          found.gone,
          held-step T ok p t (missing-told ∙ e) found.entered,
          loads (unit_cost T.kind),
        )

    -- what left was held or loaded
    pub left-within : left ≤ c.held.0 + chosen loaded (unit_cost T.kind) 0
    left-within = omega (arith, moves)

    -- the costs with the step
    pub through-step : (r : Costs) → Moved T.kind T.a loaded left c r → Through T p (suc t) r
    unfolding memory_through load_through
    through-step r m =
        let held-now : r.held.0 ≡ held_cost T p (suc t) = omega (arith, moves, m.held_moved) in
        record {
          accepted = one_more T p t done.accepted (step-accepted T p t (missing-told ∙ e) found.entered);
          held-cost = held-now;
          memory_cost = omega (arith, m.memory_moved, done.memory_cost, held-now, sum-suc t (λ t. held_cost T p (suc t)));
          load_cost =
              omega (
                arith,
                m.load_moved,
                done.load_cost,
                sum-suc t (touching T (λ t i. cond (held T p t i) 0 (swap_of T i))),
                loads (swap_cost T.a),
              );
        }
