-- Which segments a step of a schedule holds, by its bytes and by the four numbers that have the start set.
use Rattle.std.specs.Prelude.{ℕ, zero, suc, ◌+◌, ◌*◌, ◌/◌, ◌%◌, ◌<◌, ◌≡◌, Bool, List, get_or}
use Rattle.model.specs.Schedules.{bit}
use Rattle.model.specs.Sheets.{most_segs, listed}

-- whether segment i is in the start set, at bit i % 64 of number i / 64
abbrev pub start_bit : List ℕ → ℕ → Bool
start_bit start i = bit (get_or start (i / 64) 0) (i % 64)

-- they have the warm segments
abbrev pub StartBits : List ℕ → List ℕ → Type 0
StartBits warm start = (i : ℕ) → i < most_segs → start_bit start i ≡ listed warm i

-- segment i is held in step t, counted from 1, of a schedule; before step 1 the start set is
unfoldable pub held_of : List ℕ → List ℕ → ℕ → ℕ → Bool
held_of start p zero i = start_bit start i
held_of start p (suc t) i = bit (get_or p (32 * t + i / 8) 0) (i % 8)
