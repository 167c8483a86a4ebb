-- `c_lists::recorder_list::prices_in` meets its contract. The loop's invariant: the prices of the rows passed are read.
use Rattle.model.specs.Sheets.{most_rows}
use Rattle.model.specs.Sums.{tabulate}
use Rattle.c_lists.specs.RecorderList.{row_of}
use Rattle.c_lists.proofs.BucketSums.{Filled}
use Rattle.c_lists.proofs.recorder_list.prices_in.Given as goal

abbrev pub invariant-loop-r : goal.invariant-loop-r
invariant-loop-r l = Filled 64 (tabulate most_rows (row_of l.list)) l.rows l.r
