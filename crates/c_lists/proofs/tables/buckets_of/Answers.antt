-- `tables::buckets_of` meets its contract. The loop's invariant: the first k buckets are stored.
use mathlib.Core.Path.{sym, ◌∙◌}
use Rattle.buckets.specs.Buckets.{no_bucket}
use Rattle.model.proofs.Tables.{length-tabulate, get_or-tabulate}
use Rattle.c_lists.specs.Tables.{bucket_in}
use Rattle.c_lists.proofs.BucketSums.{filled_start, filled_step, filled_end}
use borrow.Author.Rules.{rules}
use Rattle.c_lists.proofs.tables.buckets_of.Goals as goal

pub loop-k-init : goal.loop-k-init
loop-k-init c = filled_start 65 _ _ (length-tabulate 65 _) (search rules)

pub loop-k-preserved : goal.loop-k-preserved
loop-k-preserved c =
    filled_step 65 _ _ _ _ no_bucket c.loop-k.invariant c.loop-k-test.true
    (get_or-tabulate 65 (bucket_in c.args.sums.now) _ no_bucket c.loop-k-test.true ∙ sym c.bucket_at.ensures)

pub returns : goal.returns
returns c = filled_end 65 _ _ _ c.loop-k.invariant c.loop-k-test.false
