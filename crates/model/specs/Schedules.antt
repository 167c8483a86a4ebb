-- Schedules: which segments are held in each step, what that costs, and the optimal one.
use Rattle.std.specs.Prelude.{ℕ, zero, suc, ◌+◌, ◌-◌, ◌*◌, ◌/◌, ◌%◌, ◌^◌, ◌<◌, ◌≡◌, Bool, true, false, cond, not, ◌&&◌, ◌||◌, List}
use Rattle.std.specs.Prelude.{length, get_or, eqb}
use Rattle.model.specs.Costs.{total_cost}
use Rattle.model.specs.Sums.{sum, tabulate}
use Rattle.model.specs.Traces.{Trace, steps, touched, swap_of, unit_of, over_touches, over_segments}
use Rattle.model.specs.Figures.{ref_cost, kept}
use Rattle.model.specs.Sheets.{most_segs}

-- bit k of a byte
abbrev pub bit : ℕ → ℕ → Bool
bit b k = eqb (b / 2 ^ k % 2) 1

-- segment i is held in step t, counted from 1, of a schedule p of 32 bytes per step: bit i % 8 of byte i / 8. Before step 1 the
-- start set is held
unfoldable pub held : Trace → List ℕ → ℕ → ℕ → Bool
held T p zero i = T.start i
held T p (suc t) i = bit (get_or p (32 * t + i / 8) 0) (i % 8)

-- a permitted schedule: 32 bytes for each step; the touched segment is held; another is held only if held in the step before
pub record Permitted (T : Trace) (p : List ℕ) : Type 0 where
  pub whole : length p ≡ 32 * steps T
  pub touched_held : (t i : ℕ) → t < steps T → touched T t i ≡ true → held T p (suc t) i ≡ true
  pub others_stay : (t i : ℕ) → t < steps T → i < most_segs → touched T t i ≡ false → held T p (suc t) i ≡ true → held T p t i ≡ true

-- memory of a schedule: Q, and in each step 1 (time) or z (space) for every held untouched segment
unfoldable pub schedule_memory : Trace → List ℕ → ℕ
schedule_memory T p =
    ref_cost T + sum (steps T) (λ t. over_segments T (λ i. cond (held T p (suc t) i && not (touched T t i)) (unit_of T i) 0))

-- load of a schedule: w of each touch, unless the segment was held in the step before
unfoldable pub schedule_load : Trace → List ℕ → ℕ
schedule_load T p = over_touches T (λ t i. cond (held T p t i) 0 (swap_of T i))

-- total of a schedule: d × memory + h × load
unfoldable pub schedule_total : Trace → ℕ → ℕ → List ℕ → ℕ
schedule_total T h d p = total_cost h d (schedule_memory T p) (schedule_load T p)

-- of the k steps from place t on, the first that touches segment i is a kept reuse
unfoldable pub next_kept : Trace → ℕ → ℕ → ℕ → ℕ → ℕ → Bool
next_kept T h d zero t i = false
next_kept T h d (suc k) t i = cond (touched T t i) (kept T h d t i) (next_kept T h d k (suc t) i)

-- the optimal schedule holds in the step at place t the touched segment, and a segment whose next touch is a kept reuse
unfoldable pub optimal_held : Trace → ℕ → ℕ → ℕ → ℕ → Bool
optimal_held T h d t i = touched T t i || next_kept T h d (steps T - suc t) (suc t) i

-- byte j of the optimal schedule: byte j % 32 of the step at place j / 32
unfoldable pub optimal_byte : Trace → ℕ → ℕ → ℕ → ℕ
optimal_byte T h d j = sum 8 (λ k. cond (optimal_held T h d (j / 32) (8 * (j % 32) + k)) (2 ^ k) 0)

-- the bytes of the optimal schedule
unfoldable pub optimal_schedule : Trace → ℕ → ℕ → List ℕ
optimal_schedule T h d = tabulate (32 * steps T) (optimal_byte T h d)
