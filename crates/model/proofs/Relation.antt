-- The relation between GWS and GOPT of document 002, exactly and in bounds: wsmem is d × optmem + h × (load − W) and the cost of the
-- end intervals, which is at most h × W; W is the swap costs of the touched segments, added.
use Prim.Native.Nat.{ℕ, ◌+◌, ◌-◌, ◌*◌, ◌≤◌, min}
use mathlib.Core.Path.{◌≡◌, refl, ap}
use mathlib.Core.Bool.{Bool, true, false, cond}
use native.Mathlib.Omega.{arith}
use native.Mathlib.Nat.{mul-le-mul_left, mul-sub}
use lib.Dec.{leb}
use borrow.Author.Tests.{leb-true, leb-false}
use Rattle.model.specs.Costs.{keeps, total_cost}
use Rattle.model.specs.Traces.{Trace, segs, steps, swap_of, over_segments, unreferenced}
use Rattle.model.specs.Figures.{is_reuse, retention_of, kept, load, optmem, opttotal, smaller, wsmem}
use Rattle.model.proofs.Sums.{sum-le, sum-mul}
use Rattle.model.proofs.FirstTouches.{touched_of, first_of, first-touches}
use Rattle.model.proofs.Loads.{over_touches-eq, over_touches-total, load-swaps, over_touches-le}

-- w of segment i where it was touched within t steps, 0 where it was not
abbrev pub touched_swap : Trace → ℕ → ℕ → ℕ
touched_swap T t i = touched_of T (swap_of T) t i

-- w of a first touch, 0 of a reuse
abbrev pub first_swap : Trace → ℕ → ℕ → ℕ
first_swap T t i = first_of T (swap_of T) t i

-- W: the swap costs of the touched segments, added
abbrev pub touched_swaps : Trace → ℕ
touched_swaps T = over_segments T (touched_swap T (steps T))

-- what the end intervals add to wsmem
abbrev pub end_costs : Trace → ℕ → ℕ → ℕ
end_costs T h d = over_segments T (λ i. smaller T h d (steps T) i)

-- a touch costs the optimal policy the smaller value, and h × w besides where it is a first touch
touch-costs : (T : Trace) (h d t i : ℕ)
    → total_cost h d (cond (kept T h d t i) (retention_of T t i) 0) (cond (kept T h d t i) 0 (swap_of T i))
    ≡ total_cost h 1 (smaller T h d t i) (first_swap T t i)
unfolding kept smaller
touch-costs T h d t i =
    go (is_reuse (unreferenced T t i)) (retention_of T t i) (swap_of T i) (leb (d * retention_of T t i) (h * swap_of T i)) refl
  where
    go : (b : Bool) (R w : ℕ) (k : Bool) → keeps (d * R) (h * w) ≡ k
        → total_cost h d (cond (cond b (keeps (d * R) (h * w)) false) R 0) (cond (cond b (keeps (d * R) (h * w)) false) 0 w)
        ≡ total_cost h 1 (cond b (min (d * R) (h * w)) 0) (cond b 0 w)
    go true R w true e = rw e (omega (arith, leb-true (d * R) (h * w) e))
    go true R w false e = rw e (omega (arith, leb-false (d * R) (h * w) e))
    go false R w k e = omega arith

-- the smaller value is within h × w of a touched segment, and 0 of any other
smaller-within : (T : Trace) (h d t i : ℕ) → smaller T h d t i ≤ h * touched_swap T t i
unfolding smaller
smaller-within T h d t i = go (is_reuse (unreferenced T t i)) (d * retention_of T t i) (swap_of T i)
  where
    go : (b : Bool) (dR w : ℕ) → cond b (min dR (h * w)) 0 ≤ h * cond b w 0
    go true dR w = omega arith
    go false dR w = omega arith

-- a first touch is a miss
first-missed : (T : Trace) (h d t i : ℕ) → first_swap T t i ≤ cond (kept T h d t i) 0 (swap_of T i)
unfolding kept
first-missed T h d t i =
    go (is_reuse (unreferenced T t i)) (keeps (d * retention_of T t i) (h * swap_of T i)) (swap_of T i)
  where
    go : (b k : Bool) (w : ℕ) → cond b 0 w ≤ cond (cond b k false) 0 w
    go true k w = omega arith
    go false k w = omega arith

-- the end intervals add at most h × W
pub ends-within : (T : Trace) (h d : ℕ) → end_costs T h d ≤ h * touched_swaps T
ends-within T h d =
    omega (
      arith,
      sum-le (segs T) (λ i. smaller T h d (steps T) i) (λ i. h * touched_swap T (steps T) i) (λ i lt. smaller-within T h d (steps T) i),
      sum-mul h (segs T) (touched_swap T (steps T)),
    )

-- for a run before which nothing was touched
module _ (T : Trace) (fresh : (i : ℕ) → T.start i ≡ false) (h d : ℕ) where
  -- exactly: wsmem is d × optmem + h × (load − W) + the cost of the end intervals, here written without a difference
  pub opttotal-wsmem : opttotal T h d + end_costs T h d ≡ wsmem T h d + h * touched_swaps T
  unfolding opttotal optmem wsmem
  opttotal-wsmem =
      let retained : ℕ → ℕ → ℕ = λ t i. cond (kept T h d t i) (retention_of T t i) 0 in
      let loaded : ℕ → ℕ → ℕ = λ t i. cond (kept T h d t i) 0 (swap_of T i) in
      let least : ℕ → ℕ → ℕ = λ t i. smaller T h d t i in
      omega (
        arith,
        over_touches-eq T (λ t i. total_cost h d (retained t i) (loaded t i)) (λ t i. total_cost h 1 (least t i) (first_swap T t i))
            (λ t i lt l touch. touch-costs T h d t i),
        over_touches-total T h d retained loaded,
        over_touches-total T h 1 least (first_swap T),
        ap (λ l. h * l) (load-swaps T h d),
        ap (λ w. h * w) (first-touches T (swap_of T) fresh (steps T)),
      )

  -- every touched segment was loaded
  pub touched-loaded : touched_swaps T ≤ load T h d
  touched-loaded =
      let loaded : ℕ → ℕ → ℕ = λ t i. cond (kept T h d t i) 0 (swap_of T i) in
      omega (
        arith,
        first-touches T (swap_of T) fresh (steps T),
        load-swaps T h d,
        over_touches-le T (first_swap T) loaded (λ t i. first-missed T h d t i),
      )

  -- so wsmem is within the optimal total, and at most h × W below it
  pub wsmem_least : d * optmem T h d + h * load T h d ≤ wsmem T h d + h * touched_swaps T
  unfolding opttotal
  wsmem_least = omega (arith, opttotal-wsmem)

  pub wsmem-most : wsmem T h d ≤ d * optmem T h d + h * load T h d
  unfolding opttotal
  wsmem-most = omega (arith, opttotal-wsmem, ends-within T h d)

  -- the bounds as document 002 states them: h × (load − W) ≤ wsmem − d × optmem ≤ h × load
  pub optmem_within : d * optmem T h d ≤ wsmem T h d
  optmem_within = omega (arith, wsmem_least, mul-le-mul_left h touched-loaded)

  pub difference-least : h * (load T h d - touched_swaps T) ≤ wsmem T h d - d * optmem T h d
  difference-least = omega (arith, wsmem_least, optmem_within, mul-sub h (load T h d) (touched_swaps T))

  pub difference-most : wsmem T h d - d * optmem T h d ≤ h * load T h d
  difference-most = omega (arith, wsmem-most)

  -- with its load, wsmem is within twice the optimal total
  pub twice-opttotal : wsmem T h d + h * load T h d ≤ 2 * opttotal T h d
  unfolding opttotal
  twice-opttotal = omega (arith, wsmem-most)
