-- The schedule of the least total by one decision of each touch, as a writer makes it: whether the touch finds its segment held.
use Rattle.std.specs.Prelude.{ℕ, ◌-◌, Bool, ◌||◌}
use Rattle.model.specs.Traces.{Trace, steps}
use Rattle.model.specs.Figures.{kept}
use Rattle.stores.specs.Modtotal.{joins_before, next_marked}

-- a touch of segment i in the step at place t finds it held: it is a kept reuse, or the next modifying touch from there on belongs to the
-- stay of the one before
unfoldable pub mod_kept : Trace → (ℕ → Bool) → ℕ → ℕ → ℕ → ℕ → Bool
mod_kept T marks h d t i = kept T h d t i || next_marked T marks (joins_before T marks h d) (steps T - t) t i
