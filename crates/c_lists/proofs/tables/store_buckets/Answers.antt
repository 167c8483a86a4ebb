-- `tables::store_buckets` meets its contract. The loop's invariant: the first k buckets stand in the sums.
use Rattle.c_lists.proofs.BucketSums.{sums_start, sums_step, sums_end}
use borrow.Author.Rules.{rules}
use Rattle.c_lists.proofs.tables.store_buckets.Goals as goal

pub loop-k-init : goal.loop-k-init
loop-k-init c = sums_start _ _ (search rules) c.told-sums

pub loop-k-preserved : goal.loop-k-preserved
loop-k-preserved c = rw c.store_bucket.ensures (sums_step _ _ _ c.loop-k.invariant c.loop-k-test.true)

pub returns : goal.returns
returns c = sums_end _ _ _ c.loop-k.invariant c.loop-k-test.false
