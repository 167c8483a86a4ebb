-- The bytes of the segments that are held before step 1.
use Rattle.std.specs.Prelude.{ℕ, ◌+◌, ◌*◌, ◌^◌, cond, List}
use Rattle.model.specs.Sheets.{listed}
use Rattle.model.specs.Sums.{sum, tabulate}

-- the bytes of a step that holds the listed segments, segment i at bit i % 8 of byte i / 8
unfoldable pub start_mask : List ℕ → List ℕ
start_mask warm = tabulate 32 (λ j. sum 8 (λ k. cond (listed warm (8 * j + k)) (2 ^ k) 0))
