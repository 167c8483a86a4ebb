-- What pricing a schedule keeps of the steps so far: the cost of what is held, the memory and the load; and one step more.
use Rattle.std.specs.Prelude.{ℕ, suc, ◌*◌, ◌<◌, ◌≡◌, cond, List, length, get_or, Option, Result, Ok, Err}
use Rattle.model.specs.Sums.{sum}
use Rattle.model.specs.Traces.{Trace, segs, steps, unit_of, swap_of, touching, over_segments}
use Rattle.model.specs.Schedules.{held}
use Rattle.model.specs.Sheets.{RunWithin, most_segs}
use Rattle.model.specs.declared.Refusal.{Refusal}
use Rattle.schedule.specs.inner.Segments.{segment_of}
use Rattle.pricing.specs.inner.Held.{start_bit}
use Rattle.pricing.specs.declared.step_price.Costs.{Costs}
use Rattle.model.specs.Pricing.{step_verdict, steps_verdict}

-- a schedule of the right length for a run that can be priced, its start set, and the place t of a step
pub record Step (T : Trace) (start p : List ℕ) (t : ℕ) : Type 0 where
  pub limits : RunWithin T
  pub start_whole : length start ≡ 4
  pub start_bits : (i : ℕ) → i < most_segs → start_bit start i ≡ T.start i
  pub whole : length p ≡ 32 * steps T
  pub place : t < steps T

-- the segment that such a step touches, if any
pub record Touches (T : Trace) (start p : List ℕ) (t : ℕ) (touched : Option ℕ) : Type 0 where
  pub step : Step T start p t
  pub is : touched ≡ segment_of (segs T) (get_or T.entries t 0)

-- what the segments held in step t, counted from 1, cost for one step
unfoldable pub held_cost : Trace → List ℕ → ℕ → ℕ
held_cost T p t = over_segments T (λ i. cond (held T p t i) (unit_of T i) 0)

-- memory of the first n steps, where each holds the segment that it touches
unfoldable pub memory_through : Trace → List ℕ → ℕ → ℕ
memory_through T p n = sum n (λ t. held_cost T p (suc t))

-- load of the first n steps
unfoldable pub load_through : Trace → List ℕ → ℕ → ℕ
load_through T p n = sum n (touching T (λ t i. cond (held T p t i) 0 (swap_of T i)))

-- the first n steps are accepted, and these are the cost for one step of what is held after them, their memory and their load
pub record Through (T : Trace) (p : List ℕ) (n : ℕ) (c : Costs) : Type 0 where
  pub accepted : steps_verdict T p n ≡ (Ok tt)
  pub held-cost : c.held.0 ≡ held_cost T p n
  pub memory_cost : c.memory.0 ≡ memory_through T p n
  pub load_cost : c.load.0 ≡ load_through T p n

-- one step more, at place t: the fault of that step, or the costs with it
abbrev pub After : Trace → List ℕ → ℕ → Result Costs Refusal → Type 0
After T p t (Err r) = step_verdict T p t ≡ Err r
After T p t (Ok c) = Through T p (suc t) c
