-- `tables::rows_of` meets its contract. The loop's invariant: the first i rows are stored.
use Rattle.c_lists.specs.Tables.{rows_of}
use Rattle.c_lists.proofs.BucketSums.{Filled}
use Rattle.c_lists.proofs.tables.rows_of.Given as goal

abbrev pub invariant-loop-i : goal.invariant-loop-i
invariant-loop-i l = Filled 64 (rows_of l.h l.d) l.row-items l.i
