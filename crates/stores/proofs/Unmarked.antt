-- Without a modifying touch modtotal is opttotal, the schedule written is the optimal one, and no schedule has a store.
use Prim.Native.Nat.{ℕ, zero, suc, ◌+◌, ◌-◌, ◌≤◌, ◌<◌}
use mathlib.Core.Path.{◌≡◌, refl, ap, ◌∙◌}
use mathlib.Core.Bool.{Bool, true, false, cond, not, ◌&&◌, ◌||◌, and-false, or-false}
use mathlib.Core.List.{List}
use native.Mathlib.Omega.{arith}
use lib.Dec.{ltb}
use Rattle.model.specs.Traces.{Trace, segs, steps, entry, touched, touching, swap_of, over_touches}
use Rattle.model.specs.Figures.{kept, opttotal}
use Rattle.model.specs.Schedules.{held, schedule_load, next_kept, optimal_schedule}
use Rattle.model.specs.Decisions.{next_decided, decided_held, decided_schedule}
use Rattle.model.specs.Sums.{sum}
use Rattle.model.proofs.Sums.{sum-zero}
use Rattle.model.proofs.Decisions.{held_bytes-eq}
use Rattle.model.proofs.Optimal.{next-kept, decided-optimal}
use Rattle.stores.specs.Modtotal.{store_cost, mod_added, modtotal, joins_before, next_marked, mod_held, mod_schedule}
use Rattle.stores.specs.Stays.{stores_of, marked_load}
use Rattle.stores.specs.inner.Marks.{dirty, stores_at_ends}
use Rattle.stores.proofs.Stays.{stays-ends}

-- where no touch adds anything, the sum is 0
nothing-added : (T : Trace) (f : ℕ → ℕ → ℕ) → ((t i : ℕ) → t < steps T → f t i ≡ 0) → over_touches T f ≡ 0
unfolding touching
nothing-added T f none =
    sum-zero (steps T) (touching T f) (λ t lt. rw (none t (entry T t) lt) (same (ltb (entry T t) (segs T))))
  where
    same : (b : Bool) → cond {A = ℕ} b 0 0 ≡ 0
    same true = refl
    same false = refl

module _ (T : Trace) (marks : ℕ → Bool) (none : (t : ℕ) → t < steps T → marks t ≡ false) where
  pub unmarked-added : (h d : ℕ) → mod_added T marks h d ≡ 0
  unfolding mod_added
  unmarked-added h d = nothing-added T (λ t i. cond (marks t) (store_cost T marks h d t i) 0) (λ t i lt. rw (none t lt))

  pub unmarked-total : (h d : ℕ) → modtotal T marks h d ≡ opttotal T h d
  unfolding modtotal
  unmarked-total h d = omega (arith, unmarked-added h d)

  -- no segment is modified
  never-dirty : (S : ℕ → ℕ → Bool) (t i : ℕ) → t ≤ steps T → dirty T marks S t i ≡ false
  unfolding dirty
  never-dirty S zero i le = refl
  never-dirty S (suc t) i le =
      rw (none t le, and-false (touched T t i), never-dirty S t i (omega arith), and-false (S (suc t) i))

  pub unmarked-stores : (S : ℕ → ℕ → Bool) → stores_of T marks S ≡ 0
  unfolding stores_at_ends
  unmarked-stores S =
      stays-ends T marks S
      ∙ omega (
        arith,
        sum-zero (steps T) (λ t. sum (segs T) (λ i. cond (dirty T marks S t i && not (S (suc t) i)) (swap_of T i) 0))
            (λ t lt. sum-zero (segs T) (λ i. cond (dirty T marks S t i && not (S (suc t) i)) (swap_of T i) 0)
            (λ i l. rw (never-dirty S t i (omega arith)))),
        sum-zero (segs T) (λ i. cond (dirty T marks S (steps T) i) (swap_of T i) 0)
            (λ i l. rw (never-dirty S (steps T) i (omega arith))),
      )

  pub unmarked-load : (p : List ℕ) → marked_load T marks p ≡ schedule_load T p
  unfolding marked_load
  unmarked-load p = omega (arith, unmarked-stores (held T p))

  -- no next touch modifies
  next-unmarked : (f : ℕ → ℕ → Bool) (k t i : ℕ) → t + k ≤ steps T → next_marked T marks f k t i ≡ false
  unfolding next_marked
  next-unmarked f zero t i le = refl
  next-unmarked f (suc k) t i le =
      rw (none t (omega arith), and-false (touched T t i)) (next-unmarked f k (suc t) i (omega arith))

  pub unmarked-schedule : (h d : ℕ) → mod_schedule T marks h d ≡ optimal_schedule T h d
  unfolding mod_schedule mod_held decided_schedule decided_held
  unmarked-schedule h d =
      held_bytes-eq (steps T) (mod_held T marks h d) (decided_held T (kept T h d))
      (λ t i lt. ap (λ b. touched T t i || b) (at (steps T - suc t) t i (omega arith)))
      ∙ decided-optimal T h d
    where
      at : (k t i : ℕ) → suc t + k ≤ steps T
          → next_kept T h d k (suc t) i || next_marked T marks (joins_before T marks h d) k (suc t) i
          ≡ next_decided T (kept T h d) k (suc t) i
      at k t i le =
          rw (next-unmarked (joins_before T marks h d) k (suc t) i le, or-false (next_kept T h d k (suc t) i), next-kept T h d k (suc t) i)
