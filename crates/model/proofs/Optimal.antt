-- The optimal schedule is the one by the decision `kept`: so it is permitted, and its memory, load and total are optmem, load and
-- opttotal.
use Prim.Native.Nat.{ℕ, zero, suc, ◌-◌, ◌*◌, ◌≤◌, ◌<◌}
use mathlib.Core.Path.{◌≡◌, refl, sym, ap, ◌∙◌}
use mathlib.Core.Bool.{Bool, true, false, cond, ◌||◌}
use mathlib.Core.List.{List}
use mathlib.Core.Option.{some}
use native.Mathlib.Omega.{arith}
use borrow.Author.Tests.{le-leb}
use Rattle.model.specs.Costs.{keeps}
use Rattle.model.specs.Traces.{Trace, segs, steps, entry, touched, swap_of, unit_of, unreferenced}
use Rattle.model.specs.Figures.{is_reuse, retention_of, kept, load, optmem, opttotal}
use Rattle.model.specs.Schedules.{Permitted, schedule_memory, schedule_load, schedule_total}
use Rattle.model.specs.Schedules.{next_kept, optimal_held, optimal_byte, optimal_schedule}
use Rattle.model.specs.Decisions.{held_byte, held_bytes, next_decided, decided_held, decided_schedule, decisions_of}
use Rattle.model.proofs.Loads.{load-swaps}
use Rattle.model.proofs.Decisions.{held_bytes-eq, decided_schedule-eq, decided-permitted, decided-memory, decided-load}

module _ (T : Trace) (h d : ℕ) where
  -- the next touch decided to be kept is the next kept reuse
  pub next-kept : (k t i : ℕ) → next_decided T (kept T h d) k t i ≡ next_kept T h d k t i
  unfolding next_decided next_kept
  next-kept zero t i = refl
  next-kept (suc k) t i = rw (next-kept k (suc t) i)

  -- the schedule by the decision `kept` is the optimal one
  pub decided-optimal : decided_schedule T (kept T h d) ≡ optimal_schedule T h d
  unfolding decided_schedule decided_held optimal_held optimal_schedule optimal_byte held_bytes held_byte
  decided-optimal =
      held_bytes-eq (steps T) (decided_held T (kept T h d)) (optimal_held T h d)
      (λ t i lt. ap (λ b. touched T t i || b) (next-kept (steps T - suc t) (suc t) i))

  -- so is that by a list which tells of each touch whether it is kept
  pub decisions-optimal : (decisions : List Bool)
      → ((t : ℕ) → t < steps T → entry T t < segs T → decisions_of decisions t (entry T t) ≡ kept T h d t (entry T t))
      → decided_schedule T (decisions_of decisions) ≡ optimal_schedule T h d
  decisions-optimal decisions told = decided_schedule-eq T (decisions_of decisions) (kept T h d) told ∙ decided-optimal

  -- no first touch is kept, and right after a touch a reuse is
  pub kept-reuse : (t i : ℕ) → kept T h d t i ≡ true → is_reuse (unreferenced T t i) ≡ true
  unfolding kept
  kept-reuse t i = go (is_reuse (unreferenced T t i)) (keeps (d * retention_of T t i) (h * swap_of T i))
    where
      go : (o b : Bool) → cond o b false ≡ true → o ≡ true
      go true b e = refl
      go false b e = e

  pub kept-at-once : (t i : ℕ) → unreferenced T t i ≡ some 0 → kept T h d t i ≡ true
  unfolding kept
  kept-at-once t i e = rw e (le-leb (d * (0 * unit_of T i)) (h * swap_of T i) (omega arith))

  -- the optimal schedule is permitted
  pub optimal-permitted : segs T ≤ 256 → Permitted T (optimal_schedule T h d)
  optimal-permitted few = rw decided-optimal at (decided-permitted T (kept T h d) kept-reuse few)

  -- the load of the optimal schedule is load
  pub optimal-load : segs T ≤ 256 → schedule_load T (optimal_schedule T h d) ≡ load T h d
  optimal-load few = rw decided-optimal at (decided-load T (kept T h d) kept-reuse kept-at-once few) ∙ sym (load-swaps T h d)

  -- the memory of the optimal schedule is optmem
  pub optimal-memory : segs T ≤ 256 → schedule_memory T (optimal_schedule T h d) ≡ optmem T h d
  unfolding optmem
  optimal-memory few = rw decided-optimal at (decided-memory T (kept T h d) kept-reuse few)

  -- the total of the optimal schedule is opttotal
  pub optimal-total : segs T ≤ 256 → schedule_total T h d (optimal_schedule T h d) ≡ opttotal T h d
  unfolding schedule_total opttotal
  optimal-total few = rw (optimal-memory few, optimal-load few)
