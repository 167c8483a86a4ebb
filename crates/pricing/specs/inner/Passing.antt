-- What one step keeps as its segments are passed: what left so far, and what that makes of the costs.
use Rattle.std.specs.Prelude.{ℕ, suc, ◌+◌, ◌≡◌, Bool, true, false, cond, not, ◌&&◌, List, length, get_or, eqb, ltb}
use Rattle.std.specs.Prelude.{Option, Some, None, Result, Ok, Err}
use Rattle.model.specs.Costs.{unit_cost, swap_cost}
use Rattle.model.specs.Pricing.{some_enters}
use Rattle.model.specs.Schedules.{held}
use Rattle.model.specs.Sheets.{most_segs}
use Rattle.model.specs.Sums.{sum}
use Rattle.model.specs.Traces.{Trace}
use Rattle.model.specs.declared.Kind.{Kind}
use Rattle.model.specs.declared.MemoryUnits.{MemoryUnits}
use Rattle.model.specs.declared.Refusal.{Refusal}
use Rattle.model.specs.declared.Refusal.TheVariants.{HeldNotBefore}
use Rattle.pricing.specs.declared.step_price.Costs.{Costs}
use Rattle.pricing.specs.inner.Held.{held_of}
use Rattle.schedule.specs.inner.Segments.{chosen}

-- what segment i costs in memory units for one step: 0 where i is no segment
abbrev pub unit_at : Kind → List ℕ → ℕ → ℕ
unit_at kind sizes i = cond (ltb i (length sizes)) (unit_cost kind (get_or sizes i 0)) 0

-- what the segments 0 to n - 1 that were held in the step before, and are not held in the step at place t, cost for one step
unfoldable pub leaving : Trace → List ℕ → ℕ → ℕ → ℕ
leaving T p t n = sum n (λ i. cond (held T p t i && not (held T p (suc t) i)) (unit_at T.kind T.sizes i) 0)

-- of the segments 0 to n - 1 in the step at place t no untouched one entered, and those that left cost so much for one step
pub record SegmentsPassed (T : Trace) (p : List ℕ) (t n left : ℕ) : Type 0 where
  pub entered : some_enters T p t n ≡ false
  pub gone : left ≡ leaving T p t n

-- what passing them gives: what those that left cost, or that one entered
abbrev pub PassedTo : Trace → List ℕ → ℕ → ℕ → Result MemoryUnits Refusal → Type 0
PassedTo T p t n (Ok left) = SegmentsPassed T p t n left.0
PassedTo T p t n (Err why) = (why ≡ HeldNotBefore) × (some_enters T p t most_segs ≡ true)

-- a segment i whose bit changed enters untouched
abbrev pub enters_by : Bool → Option ℕ → ℕ → Bool
enters_by old touched i = not old && not (chosen touched (λ x. eqb x i) false)

-- what passing one such segment, of cost u, gives
abbrev pub Passed : Bool → Option ℕ → ℕ → ℕ → ℕ → Result MemoryUnits Refusal → Type 0
Passed old touched i u left (Ok r) = (enters_by old touched i ≡ false) × (r.0 ≡ left + cond old u 0)
Passed old touched i u left (Err why) = (why ≡ HeldNotBefore) × (enters_by old touched i ≡ true)

-- whether the step at place t does not hold the segment that it touches
abbrev pub lacks : List ℕ → List ℕ → ℕ → Option ℕ → Bool
lacks start p t touched = chosen touched (λ x. not (held_of start p (suc t) x)) false

-- the size of the segment that the step at place t loads, if any
abbrev pub loaded_size : List ℕ → List ℕ → List ℕ → ℕ → Option ℕ → Option ℕ
loaded_size sizes start p t touched = chosen touched (λ x. cond (held_of start p t x) None (Some (get_or sizes x 0))) None

-- the costs with one step more: those that left are taken off, and a loaded segment, given by its size, is added
pub record Moved (kind : Kind) (a : ℕ) (loaded : Option ℕ) (left : ℕ) (c r : Costs) : Type 0 where
  pub held_moved : r.held.0 + left ≡ c.held.0 + chosen loaded (unit_cost kind) 0
  pub memory_moved : r.memory.0 ≡ c.memory.0 + r.held.0
  pub load_moved : r.load.0 ≡ c.load.0 + chosen loaded (swap_cost a) 0
