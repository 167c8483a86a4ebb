-- What a pricer keeps of each segment to tell whether it is modified: a flag that changes only at touches.
use Rattle.std.specs.Prelude.{ℕ, zero, suc, Bool, false, cond, ◌&&◌, ◌||◌}
use Rattle.model.specs.Traces.{Trace, touched}

-- after t steps: the last touch of segment i modified it, or found it held and modified
unfoldable pub modified_flag : Trace → (ℕ → Bool) → (ℕ → ℕ → Bool) → ℕ → ℕ → Bool
modified_flag T marks S zero i = false
modified_flag T marks S (suc t) i = cond (touched T t i) (marks t || (S t i && modified_flag T marks S t i)) (modified_flag T marks S t i)
