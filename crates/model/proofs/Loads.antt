-- Sums over touches: equal and ordered as the terms are, sums of totals, and the load as the sum of w over the misses.
use Prim.Native.Nat.{ℕ, zero, suc, ◌+◌, ◌*◌, ◌≤◌, ◌<◌}
use mathlib.Core.Path.{◌≡◌, refl, ◌∙◌}
use mathlib.Core.Bool.{Bool, true, false, cond}
use native.Mathlib.Omega.{arith}
use lib.Dec.{ltb}
use borrow.Author.Tests.{ltb-true}
use Rattle.model.specs.Costs.{total_cost}
use Rattle.model.specs.Sums.{sum}
use Rattle.model.specs.Traces.{Trace, segs, steps, entry, touched, touching, over_touches, size_of, swap_of}
use Rattle.model.specs.Figures.{kept, misses, volume, load}
use Rattle.model.proofs.Sums.{sum-eq, sum-le, sum-within}
use Rattle.model.proofs.Touches.{touched-at}

-- a sum of totals is the total of the sums
pub sum-total : (h d n : ℕ) (f g : ℕ → ℕ) → sum n (λ t. total_cost h d (f t) (g t)) ≡ total_cost h d (sum n f) (sum n g)
unfolding sum
sum-total h d zero f g = omega arith
sum-total h d (suc n) f g = omega (arith, sum-total h d n f g)

-- what a step adds depends only on what the touch in it adds
pub touching-eq : (T : Trace) (f g : ℕ → ℕ → ℕ) (t : ℕ) → ((i : ℕ) → i < segs T → touched T t i ≡ true → f t i ≡ g t i)
    → touching T f t ≡ touching T g t
unfolding touching
touching-eq T f g t eq = go (ltb (entry T t) (segs T)) refl
  where
    go : (b : Bool) → ltb (entry T t) (segs T) ≡ b → touching T f t ≡ touching T g t
    go true e =
        let lt = ltb-true (entry T t) (segs T) e in
        rw e (eq (entry T t) lt (touched-at T t lt))
    go false e = rw e

-- sums over touches with equal terms are equal
pub over_touches-eq : (T : Trace) (f g : ℕ → ℕ → ℕ)
    → ((t i : ℕ) → t < steps T → i < segs T → touched T t i ≡ true → f t i ≡ g t i) → over_touches T f ≡ over_touches T g
over_touches-eq T f g eq = sum-eq (steps T) (touching T f) (touching T g) (λ t lt. touching-eq T f g t (λ i l m. eq t i lt l m))

-- what a step adds of totals is the total of what it adds
pub touching-total : (T : Trace) (h d : ℕ) (f g : ℕ → ℕ → ℕ) (t : ℕ)
    → touching T (λ t i. total_cost h d (f t i) (g t i)) t ≡ total_cost h d (touching T f t) (touching T g t)
unfolding touching
touching-total T h d f g t = go (ltb (entry T t) (segs T)) refl
  where
    go : (b : Bool) → ltb (entry T t) (segs T) ≡ b
        → touching T (λ t i. total_cost h d (f t i) (g t i)) t ≡ total_cost h d (touching T f t) (touching T g t)
    go true e = rw e
    go false e = rw e (omega arith)

-- a sum of totals over touches is the total of the sums
pub over_touches-total : (T : Trace) (h d : ℕ) (f g : ℕ → ℕ → ℕ)
    → over_touches T (λ t i. total_cost h d (f t i) (g t i)) ≡ total_cost h d (over_touches T f) (over_touches T g)
over_touches-total T h d f g =
    sum-eq
    (steps T)
    (touching T (λ t i. total_cost h d (f t i) (g t i)))
    (λ t. total_cost h d (touching T f t) (touching T g t))
    (λ t lt. touching-total T h d f g t)
    ∙ sum-total h d (steps T) (touching T f) (touching T g)

-- what a step adds is no larger where what its touch adds is no larger
pub touching-le : (T : Trace) (f g : ℕ → ℕ → ℕ) (t : ℕ) → ((i : ℕ) → i < segs T → touched T t i ≡ true → f t i ≤ g t i)
    → touching T f t ≤ touching T g t
unfolding touching
touching-le T f g t le = go (ltb (entry T t) (segs T)) refl
  where
    go : (b : Bool) → ltb (entry T t) (segs T) ≡ b → touching T f t ≤ touching T g t
    go true e =
        let lt = ltb-true (entry T t) (segs T) e in
        rw e (le (entry T t) lt (touched-at T t lt))
    go false e = rw e (omega arith)

-- a sum over touches with terms no larger is no larger
pub over_touches-le : (T : Trace) (f g : ℕ → ℕ → ℕ) → ((t i : ℕ) → f t i ≤ g t i) → over_touches T f ≤ over_touches T g
over_touches-le T f g le = sum-le (steps T) (touching T f) (touching T g) (λ t lt. touching-le T f g t (λ i l m. le t i))

-- a sum of n steps whose touches add at most m each
pub touching-within : (T : Trace) (n m : ℕ) (f : ℕ → ℕ → ℕ) → ((t i : ℕ) → t < n → i < segs T → f t i ≤ m) → sum n (touching T f) ≤ n * m
unfolding touching
touching-within T n m f le = sum-within n m (touching T f) (λ t lt. go t lt (ltb (entry T t) (segs T)) refl)
  where
    go : (t : ℕ) → t < n → (b : Bool) → ltb (entry T t) (segs T) ≡ b → touching T f t ≤ m
    go t lt true e = rw e (le t (entry T t) lt (ltb-true (entry T t) (segs T) e))
    go t lt false e = rw e (omega arith)

-- the load is the sum of w over the misses
pub load-swaps : (T : Trace) (h d : ℕ) → load T h d ≡ over_touches T (λ t i. cond (kept T h d t i) 0 (swap_of T i))
unfolding load misses volume
load-swaps T h d =
    let m : ℕ → ℕ → ℕ = λ t i. cond (kept T h d t i) 0 1 in
    let v : ℕ → ℕ → ℕ = λ t i. cond (kept T h d t i) 0 (size_of T i) in
    omega (
      arith,
      over_touches-total T T.a 1 m v,
      over_touches-eq T (λ t i. cond (kept T h d t i) 0 (swap_of T i)) (λ t i. total_cost T.a 1 (m t i) (v t i))
          (λ t i lt l m. miss (kept T h d t i) T.a (size_of T i)),
    )
  where
    miss : (k : Bool) (a z : ℕ) → cond k 0 (1 + a * z) ≡ 1 * cond k 0 1 + a * cond k 0 z
    miss true a z = omega arith
    miss false a z = omega arith
