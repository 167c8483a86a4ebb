-- `tables::store_buckets` meets its contract. The loop's invariant: the first k buckets stand in the sums. The measure is what is left
-- of the buckets.
use Rattle.c_lists.proofs.BucketSums.{SumsStored}
use Rattle.c_lists.proofs.tables.store_buckets.Given as goal

abbrev pub invariant-loop-k : goal.invariant-loop-k
invariant-loop-k l = SumsStored l.fn.buckets l.sums l.k
