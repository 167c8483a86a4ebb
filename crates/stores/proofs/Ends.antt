-- The stores counted at the first modifying touch of each stay are those counted at its end.
use Prim.Native.Nat.{ℕ, suc, ◌+◌, ◌<◌}
use mathlib.Core.Path.{◌≡◌, refl}
use mathlib.Core.Bool.{Bool, true, false, cond, not, ◌&&◌, ◌||◌, false≢true}
use native.Mathlib.Omega.{arith}
use Rattle.model.specs.Traces.{Trace, segs, steps, touched, swap_of}
use Rattle.model.proofs.Sums.{sum-zero}
use Rattle.model.proofs.DoubleSums.{over_touches-double, potential-eq}
use Rattle.stores.specs.inner.Marks.{dirty, stores_at_marks, stores_at_ends}

-- one step of one segment: m says whether it is touched, g whether a touch modifies, c whether it is held in the step, q whether it is
-- modified before
one-step : (w : ℕ) (m g c q : Bool) → (m ≡ true → c ≡ true)
    → cond (q && not c) w 0 + cond (c && ((m && g) || q)) w 0 ≡ cond m (cond (g && not q) w 0) 0 + cond q w 0
one-step w true g false q hold = absurd (false≢true (hold refl))
one-step w true true true true hold = omega arith
one-step w true true true false hold = omega arith
one-step w true false true true hold = omega arith
one-step w true false true false hold = omega arith
one-step w false g true true hold = omega arith
one-step w false g true false hold = omega arith
one-step w false g false true hold = omega arith
one-step w false g false false hold = omega arith

-- of a schedule that holds what is touched
pub stores-ends : (T : Trace) (marks : ℕ → Bool) (S : ℕ → ℕ → Bool)
    → ((t i : ℕ) → t < steps T → touched T t i ≡ true → S (suc t) i ≡ true) → stores_at_marks T marks S ≡ stores_at_ends T marks S
unfolding stores_at_marks stores_at_ends dirty
stores-ends T marks S hold =
    omega (
      arith,
      over_touches-double T (λ t i. cond (marks t && not (dirty T marks S t i)) (swap_of T i) 0),
      potential-eq
          (steps T)
          (segs T)
          (λ t i. cond (dirty T marks S t i && not (S (suc t) i)) (swap_of T i) 0)
          (λ t i. cond (touched T t i) (cond (marks t && not (dirty T marks S t i)) (swap_of T i) 0) 0)
          (λ t i. cond (dirty T marks S t i) (swap_of T i) 0)
          (λ t i lt l. one-step (swap_of T i) (touched T t i) (marks t) (S (suc t) i) (dirty T marks S t i) (hold t i lt)),
      sum-zero (segs T) (λ i. cond (dirty T marks S 0 i) (swap_of T i) 0) (λ i l. refl),
    )
