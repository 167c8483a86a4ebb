-- Modified segments (request F-13), the part that theorems pin, so that nothing in it needs to be believed: the least total with stores
-- counted, by a formula, and the schedule that has it. That no permitted schedule costs less than `modtotal`, that `mod_schedule` costs
-- just
-- that, and that it is the one which the rule for ties picks is the record `MarkedDemand` (Demand.antt), proved of every run of a sheet
-- (`run-demand`, proofs/Demand.antt); it speaks of costs by Stays.antt alone.
use Rattle.std.specs.Prelude.{ℕ, zero, suc, ◌+◌, ◌-◌, ◌*◌, min, Bool, false, cond, ◌||◌, List}
use Rattle.std.proofs.Math.Option.{Option, none, some}
use Rattle.model.specs.Costs.{keeps}
use Rattle.model.specs.Traces.{Trace, steps, touched, swap_of, over_touches}
use Rattle.model.specs.Figures.{retention_of, opttotal}
use Rattle.model.specs.Schedules.{next_kept}
use Rattle.model.specs.Decisions.{held_bytes}
use Rattle.stores.specs.Stays.{modifies}

-- what holding a segment for its touch in the step at place t costs beyond a load: d × R − h × w, 0 where the reuse is kept anyway
abbrev pub excess : Trace → ℕ → ℕ → ℕ → ℕ → ℕ
excess T h d t i = d * retention_of T t i - h * swap_of T i

-- e and x more, none where there is no e
abbrev pub plus : Option ℕ → ℕ → Option ℕ
plus none x = none
plus (some e) x = some (e + x)

-- after t steps: the excess of all reuses of segment i since its last modifying touch; none before the first such touch
unfoldable pub since_mark : Trace → (ℕ → Bool) → ℕ → ℕ → ℕ → ℕ → Option ℕ
since_mark T marks h d zero i = none
since_mark T marks h d (suc t) i =
    cond (touched T t i) (cond (marks t) (some 0) (plus (since_mark T marks h d t i) (excess T h d t i))) (since_mark T marks h d t i)

-- the same up to a touch in the step at place t, with the excess of the reuse that this touch ends
abbrev pub since_through : Trace → (ℕ → Bool) → ℕ → ℕ → ℕ → ℕ → Option ℕ
since_through T marks h d t i = plus (since_mark T marks h d t i) (excess T h d t i)

-- a store, h × w, or what it takes to hold the segment since the last modifying touch where that is less
abbrev pub or_store : ℕ → Option ℕ → ℕ
or_store hw none = hw
or_store hw (some e) = min hw e

-- what a modifying touch of segment i in the step at place t adds
unfoldable pub store_cost : Trace → (ℕ → Bool) → ℕ → ℕ → ℕ → ℕ → ℕ
store_cost T marks h d t i = or_store (h * swap_of T i) (since_through T marks h d t i)

-- what all modifying touches add to opttotal, and modtotal
unfoldable pub mod_added : Trace → (ℕ → Bool) → ℕ → ℕ → ℕ
mod_added T marks h d = over_touches T (λ t i. cond (marks t) (store_cost T marks h d t i) 0)

unfoldable pub modtotal : Trace → (ℕ → Bool) → ℕ → ℕ → ℕ
modtotal T marks h d = opttotal T h d + mod_added T marks h d

-- it is worth holding the segment since the last modifying touch where that costs at most a store; equality holds
abbrev pub joins : ℕ → Option ℕ → Bool
joins hw none = false
joins hw (some e) = keeps e hw

-- a modifying touch of segment i in the step at place t belongs to the stay of the one before it
unfoldable pub joins_before : Trace → (ℕ → Bool) → ℕ → ℕ → ℕ → ℕ → Bool
joins_before T marks h d t i = joins (h * swap_of T i) (since_through T marks h d t i)

-- of the k steps from place t on, the first that modifies segment i is decided so by f
unfoldable pub next_marked : Trace → (ℕ → Bool) → (ℕ → ℕ → Bool) → ℕ → ℕ → ℕ → Bool
next_marked T marks f zero t i = false
next_marked T marks f (suc k) t i = cond (modifies T marks t i) (f t i) (next_marked T marks f k (suc t) i)

-- the schedule of the least total holds in the step at place t the touched segment, a segment whose next touch is a kept reuse, and one
-- whose next modifying touch belongs to the stay of the one before
unfoldable pub mod_held : Trace → (ℕ → Bool) → ℕ → ℕ → ℕ → ℕ → Bool
mod_held T marks h d t i =
    touched T t i
    || (next_kept T h d (steps T - suc t) (suc t) i || next_marked T marks (joins_before T marks h d) (steps T - suc t) (suc t) i)

-- its bytes
unfoldable pub mod_schedule : Trace → (ℕ → Bool) → ℕ → ℕ → List ℕ
mod_schedule T marks h d = held_bytes (steps T) (mod_held T marks h d)
