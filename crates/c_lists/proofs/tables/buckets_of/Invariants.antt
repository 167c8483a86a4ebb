-- `tables::buckets_of` meets its contract. The loop's invariant: the first k buckets are stored.
use Rattle.buckets.specs.Buckets.{bucket_count}
use Rattle.model.specs.Sums.{tabulate}
use Rattle.c_lists.specs.Tables.{bucket_in}
use Rattle.c_lists.proofs.BucketSums.{Filled}
use Rattle.c_lists.proofs.tables.buckets_of.Given as goal

abbrev pub invariant-loop-k : goal.invariant-loop-k
invariant-loop-k l = Filled 65 (tabulate bucket_count (bucket_in l.sums)) l.b-items l.k
