-- Schedules by decisions, one of each touch: whether the segment stays for it. Only what writes schedules is proved against this file;
-- the optimal schedule is defined in Schedules, and is the one by the decision `kept`.
use Rattle.std.specs.Prelude.{ℕ, zero, suc, ◌+◌, ◌-◌, ◌*◌, ◌/◌, ◌%◌, ◌^◌, Bool, false, cond, ◌||◌, List, get_or}
use Rattle.model.specs.Sums.{sum, tabulate}
use Rattle.model.specs.Traces.{Trace, steps, touched}

-- the bytes of n steps that hold segment i in the step at place t where S t i: byte j is byte j % 32 of the step at place j / 32
unfoldable pub held_byte : (ℕ → ℕ → Bool) → ℕ → ℕ
held_byte S j = sum 8 (λ k. cond (S (j / 32) (8 * (j % 32) + k)) (2 ^ k) 0)

unfoldable pub held_bytes : ℕ → (ℕ → ℕ → Bool) → List ℕ
held_bytes n S = tabulate (32 * n) (held_byte S)

-- f t i is the decision of a touch of segment i in the step at place t.
-- Of the k steps from place t on, the first that touches segment i is decided to be kept
unfoldable pub next_decided : Trace → (ℕ → ℕ → Bool) → ℕ → ℕ → ℕ → Bool
next_decided T f zero t i = false
next_decided T f (suc k) t i = cond (touched T t i) (f t i) (next_decided T f k (suc t) i)

-- the schedule holds in the step at place t the touched segment, and a segment whose next touch is decided to be kept
unfoldable pub decided_held : Trace → (ℕ → ℕ → Bool) → ℕ → ℕ → Bool
decided_held T f t i = touched T t i || next_decided T f (steps T - suc t) (suc t) i

-- its bytes
unfoldable pub decided_schedule : Trace → (ℕ → ℕ → Bool) → List ℕ
decided_schedule T f = held_bytes (steps T) (decided_held T f)

-- the decisions of a list with one for each step
abbrev pub decisions_of : List Bool → ℕ → ℕ → Bool
decisions_of decisions t i = get_or decisions t false
