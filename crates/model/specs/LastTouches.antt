-- The table of last touches: for each of 256 segments the number of the step of its last touch, or the mark "untouched".
use Rattle.std.specs.Prelude.{ℕ, ◌-◌, cond, List}
use Rattle.std.proofs.Math.Option.{Option, none, some}
use Rattle.model.specs.Sheets.{most_segs, listed}
use Rattle.model.specs.Sums.{tabulate}
use Rattle.model.specs.Traces.{Trace, unreferenced}

-- the mark of an untouched segment
abbrev pub untouched_mark : ℕ
untouched_mark = 65535

-- the table before step 1: a warm segment counts as touched at step 0, no other does
unfoldable pub start_table : List ℕ → List ℕ
start_table warm = tabulate most_segs (λ i. cond (listed warm i) 0 untouched_mark)

-- what the table holds after n steps for a segment with this unreferenced time
abbrev pub last_from : ℕ → Option ℕ → ℕ
last_from n none = untouched_mark
last_from n (some k) = n - k

-- the table after n steps
unfoldable pub last_table : Trace → ℕ → List ℕ
last_table T n = tabulate most_segs (λ i. last_from n (unreferenced T n i))
