-- Sums over all reuses and end intervals: equal and added as the terms are.
use Prim.Native.Nat.{ℕ, ◌+◌}
use mathlib.Core.Path.{◌≡◌, refl, ◌∙◌}
use mathlib.Core.Option.{Option, none, some}
use native.Mathlib.Omega.{arith}
use Rattle.model.specs.Costs.{total_cost}
use Rattle.model.specs.Traces.{Trace, segs, steps, unreferenced}
use Rattle.model.specs.Figures.{of_time}
use Rattle.model.proofs.Loads.{over_touches-eq, over_touches-total}
use Rattle.model.proofs.Sums.{sum-eq, sum-add}
use Rattle.windows.specs.Windows.{over_intervals}

time-add : (f g h : ℕ → ℕ) → ((k : ℕ) → f k ≡ g k + h k) → (o : Option ℕ) → of_time f o ≡ of_time g o + of_time h o
time-add f g h eq none = refl
time-add f g h eq (some k) = eq k

-- where every term is the sum of two others, so is the sum
pub intervals-add : (T : Trace) (f g h : ℕ → ℕ) → ((k : ℕ) → f k ≡ g k + h k) → over_intervals T f ≡ over_intervals T g + over_intervals T h
unfolding over_intervals
intervals-add T f g h eq =
    let of : (ℕ → ℕ) → ℕ → ℕ → ℕ = λ x t i. of_time x (unreferenced T t i) in
    omega (
      arith,
      over_touches-eq T (of f) (λ t i. total_cost 1 1 (of g t i) (of h t i))
          (λ t i lt l m. time-add f g h eq (unreferenced T t i) ∙ omega arith),
      over_touches-total T 1 1 (of g) (of h),
      sum-eq (segs T) (of f (steps T)) (λ i. of g (steps T) i + of h (steps T) i) (λ i l. time-add f g h eq (unreferenced T (steps T) i)),
      sum-add (segs T) (of g (steps T)) (of h (steps T)),
    )

-- where every term is 0, so is the sum
pub intervals-zero : (T : Trace) (f : ℕ → ℕ) → ((k : ℕ) → f k ≡ 0) → over_intervals T f ≡ 0
intervals-zero T f eq = omega (arith, intervals-add T f f f (λ k. omega (arith, eq k)))
