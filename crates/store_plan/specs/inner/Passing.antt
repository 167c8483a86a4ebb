-- What the pass over a schedule's touches looks at, and of which runs it speaks.
use Rattle.std.specs.Prelude.{ℕ, zero, suc, ◌+◌, ◌*◌, ◌/◌, ◌%◌, ◌≡◌, Bool, false, List, get_or}
use Rattle.model.specs.Schedules.{bit}
use Rattle.model.specs.Traces.{Trace}

-- segment i is held in step t, counted from 1, of a schedule; before step 1 none is
unfoldable pub held_after : List ℕ → ℕ → ℕ → Bool
held_after p zero i = false
held_after p (suc t) i = bit (get_or p (32 * t + i / 8) 0) (i % 8)

-- a run with this a, these sizes and these references
pub record SizedAs (T : Trace) (a : ℕ) (sizes refs : List ℕ) : Type 0 where
  pub a_is : T.a ≡ a
  pub sizes_are : T.sizes ≡ sizes
  pub refs_are : T.entries ≡ refs
