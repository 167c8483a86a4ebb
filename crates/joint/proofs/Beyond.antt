-- A run beyond its last step: nothing is touched, sums over touches and the optimal schedule stay, and end intervals only grow.
use Prim.Native.Nat.{ℕ, zero, suc, ◌+◌, ◌*◌, ◌≤◌, min}
use mathlib.Core.Path.{◌≡◌, refl}
use mathlib.Core.Bool.{false, cond}
use mathlib.Core.Option.{Option, none, some}
use native.Mathlib.Omega.{arith}
use lib.ListN.{get_or-eq_default}
use Rattle.model.specs.Costs.{retention}
use Rattle.model.specs.Figures.{of_time, is_reuse, smaller}
use Rattle.model.specs.Schedules.{next_kept}
use Rattle.model.specs.Sums.{sum}
use Rattle.model.specs.Traces.{Trace, segs, steps, size_of, swap_of, entry, touched, touching, over_touches, later, unreferenced}
use Rattle.model.proofs.Sums.{sum-suc}
use Rattle.model.proofs.Touches.{idle-touched, touching-idle, unreferenced-later}

-- terms that are 0 from place n on add nothing
pub sum-longer : (n k : ℕ) (f : ℕ → ℕ) → ((t : ℕ) → n ≤ t → f t ≡ 0) → sum (n + k) f ≡ sum n f
sum-longer n zero f nothing = let e : n + 0 ≡ n = omega arith in rw e
sum-longer n (suc k) f nothing =
    let e : n + suc k ≡ suc (n + k) = omega arith in
    rw e (omega (arith, sum-suc (n + k) f, sum-longer n k f nothing, nothing (n + k) (omega arith)))

module _ (T : Trace) where
  -- beyond the last step there is no entry
  entry-beyond : (t : ℕ) → steps T ≤ t → segs T ≤ entry T t
  entry-beyond t le = omega (arith, get_or-eq_default T.entries (segs T) le)

  pub untouched-beyond : (t i : ℕ) → steps T ≤ t → touched T t i ≡ false
  untouched-beyond t i le = idle-touched T t i (entry-beyond t le)

  -- more steps than the run has add nothing to a sum over touches
  pub touches-longer : (k : ℕ) (f : ℕ → ℕ → ℕ) → sum (steps T + k) (touching T f) ≡ over_touches T f
  touches-longer k f = sum-longer (steps T) k (touching T f) (λ t le. touching-idle T f t (entry-beyond t le))

  module _ (h d : ℕ) where
    -- a step without a touch makes the smaller of d × R and h × w no less
    smaller-later : (t i : ℕ) → touched T t i ≡ false → smaller T h d t i ≤ smaller T h d (suc t) i
    unfolding smaller later
    smaller-later t i m = rw (unreferenced-later T t i m) (go (unreferenced T t i))
      where
        go : (o : Option ℕ)
            → cond (is_reuse o) (min (d * of_time (retention T.kind (size_of T i)) o) (h * swap_of T i)) 0
            ≤ cond (is_reuse (later o)) (min (d * of_time (retention T.kind (size_of T i)) (later o)) (h * swap_of T i)) 0
        go none = omega arith
        go (some k) = omega arith

    pub smaller-beyond : (k i : ℕ) → smaller T h d (steps T) i ≤ smaller T h d (steps T + k) i
    smaller-beyond zero i = let e : steps T + 0 ≡ steps T = omega arith in rw e (omega arith)
    smaller-beyond (suc k) i =
        let e : steps T + suc k ≡ suc (steps T + k) = omega arith in
        rw e (omega (arith, smaller-beyond k i, smaller-later (steps T + k) i (untouched-beyond (steps T + k) i (omega arith))))

    -- no later touch, so no kept one
    pub next-beyond : (k t i : ℕ) → steps T ≤ t → next_kept T h d k t i ≡ false
    unfolding next_kept
    next-beyond zero t i le = refl
    next-beyond (suc k) t i le = rw (untouched-beyond t i le) (next-beyond k (suc t) i (omega arith))

    -- so it is of no account how far beyond the last step the next touch is looked for
    pub next-longer : (m k t i : ℕ) → t + m ≡ steps T → next_kept T h d (m + k) t i ≡ next_kept T h d m t i
    unfolding next_kept
    next-longer zero k t i e = let z : 0 + k ≡ k = omega arith in rw z (next-beyond k t i (omega arith))
    next-longer (suc m) k t i e =
        let z : suc m + k ≡ suc (m + k) = omega arith in
        rw (z, next-longer m k (suc t) i (omega arith))
