-- Double sums, over steps and segments: their laws, sums over touches as such, and their comparison by a potential.
use Prim.Native.Nat.{ℕ, zero, suc, ◌+◌, ◌≤◌, ◌<◌}
use mathlib.Core.Path.{◌≡◌, refl, ◌∙◌}
use mathlib.Core.Bool.{cond}
use native.Mathlib.Omega.{arith}
use Rattle.model.specs.Costs.{total_cost}
use Rattle.model.specs.Sums.{sum}
use Rattle.model.specs.Traces.{Trace, segs, steps, touched, touching, over_touches}
use Rattle.model.proofs.Sums.{sum-le, sum-eq, sum-add, sum-tight}
use Rattle.model.proofs.Touches.{touching-sum}
use Rattle.model.proofs.Loads.{sum-total}

-- the sum of f t i over t = 0 .. n - 1 and i = 0 .. m - 1
abbrev pub double_sum : ℕ → ℕ → (ℕ → ℕ → ℕ) → ℕ
double_sum n m f = sum n (λ t. sum m (λ i. f t i))

module _ (n m : ℕ) (f g : ℕ → ℕ → ℕ) where
  pub double-le : ((t i : ℕ) → t < n → i < m → f t i ≤ g t i) → double_sum n m f ≤ double_sum n m g
  double-le le = sum-le n (λ t. sum m (f t)) (λ t. sum m (g t)) (λ t lt. sum-le m (f t) (g t) (λ i l. le t i lt l))

  pub double-add : double_sum n m (λ t i. f t i + g t i) ≡ double_sum n m f + double_sum n m g
  double-add =
      sum-eq n (λ t. sum m (λ i. f t i + g t i)) (λ t. sum m (f t) + sum m (g t)) (λ t lt. sum-add m (f t) (g t))
      ∙ sum-add n (λ t. sum m (f t)) (λ t. sum m (g t))

  -- a double sum of totals is the total of the double sums
  pub double-total : (h d : ℕ) → double_sum n m (λ t i. total_cost h d (f t i) (g t i))
      ≡ total_cost h d (double_sum n m f) (double_sum n m g)
  double-total h d =
      sum-eq
      n
      (λ t. sum m (λ i. total_cost h d (f t i) (g t i)))
      (λ t. total_cost h d (sum m (f t)) (sum m (g t)))
      (λ t lt. sum-total h d m (f t) (g t))
      ∙ sum-total h d n (λ t. sum m (f t)) (λ t. sum m (g t))

-- a sum over touches, as a double sum
pub over_touches-double : (T : Trace) (f : ℕ → ℕ → ℕ)
    → over_touches T f ≡ double_sum (steps T) (segs T) (λ t i. cond (touched T t i) (f t i) 0)
over_touches-double T f =
    sum-eq (steps T) (touching T f) (λ t. sum (segs T) (λ i. cond (touched T t i) (f t i) 0)) (λ t lt. touching-sum T f t)

pub telescope : (n : ℕ) (p : ℕ → ℕ) → sum n (λ t. p (suc t)) + p 0 ≡ sum n p + p n
unfolding sum
telescope zero p = refl
telescope (suc n) p = omega (arith, telescope n p)

-- the potential p t i is a number for each i after t steps; where each step balances its change, f and g differ by it at
-- both ends
module _ (n m : ℕ) (f g p : ℕ → ℕ → ℕ) where
  pub potential-le : ((t i : ℕ) → t < n → i < m → f t i + p (suc t) i ≤ g t i + p t i)
      → double_sum n m f + sum m (p n) ≤ double_sum n m g + sum m (p 0)
  potential-le le =
      omega (
        arith,
        double-le n m (λ t i. f t i + p (suc t) i) (λ t i. g t i + p t i) le,
        double-add n m f (λ t i. p (suc t) i),
        double-add n m g p,
        telescope n (λ t. sum m (p t)),
      )

  pub potential-ge : ((t i : ℕ) → t < n → i < m → f t i + p t i ≤ g t i + p (suc t) i)
      → double_sum n m f + sum m (p 0) ≤ double_sum n m g + sum m (p n)
  potential-ge le =
      omega (
        arith,
        double-le n m (λ t i. f t i + p t i) (λ t i. g t i + p (suc t) i) le,
        double-add n m f p,
        double-add n m g (λ t i. p (suc t) i),
        telescope n (λ t. sum m (p t)),
      )

pub potential-eq : (n m : ℕ) (f g p : ℕ → ℕ → ℕ) → ((t i : ℕ) → t < n → i < m → f t i + p (suc t) i ≡ g t i + p t i)
    → double_sum n m f + sum m (p n) ≡ double_sum n m g + sum m (p 0)
potential-eq n m f g p eq =
    omega (
      arith,
      potential-le n m f g p (λ t i lt l. omega (arith, eq t i lt l)),
      potential-ge n m g f p (λ t i lt l. omega (arith, eq t i lt l)),
    )

-- terms that are each within another, but not less in all, are equal
pub double-tight : (n m : ℕ) (f g : ℕ → ℕ → ℕ) → ((t i : ℕ) → t < n → i < m → f t i ≤ g t i) → double_sum n m g ≤ double_sum n m f
    → (t i : ℕ) → t < n → i < m → f t i ≡ g t i
double-tight n m f g le whole t i lt l =
    let row = sum-tight n (λ t. sum m (f t)) (λ t. sum m (g t)) (λ t lt. sum-le m (f t) (g t) (λ i l. le t i lt l)) whole t lt in
    sum-tight m (f t) (g t) (λ i l. le t i lt l) (omega arith) i l
