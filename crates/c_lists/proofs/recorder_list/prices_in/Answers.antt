-- `c_lists::recorder_list::prices_in` meets its contract.
use mathlib.Core.Path.{refl, ◌∙◌}
use Rattle.model.proofs.Tables.{length-tabulate, get_or-tabulate}
use Rattle.c_lists.specs.RecorderList.{row_of}
use Rattle.c_lists.proofs.BucketSums.{filled_start, filled_step, filled_end}
use Rattle.c_lists.proofs.recorder_list.prices_in.Goals as goal

pub loop-r-init : goal.loop-r-init
loop-r-init c = filled_start 64 _ _ (length-tabulate 64 _) refl

pub loop-r-preserved : goal.loop-r-preserved
loop-r-preserved c =
    filled_step 64 _ _ _ _ (record { h = 0; d = 0 }) c.loop-r.invariant c.loop-r-test.true
    (get_or-tabulate 64 (row_of c.args.list.now) _ (record { h = 0; d = 0 }) c.loop-r-test.true
    ∙ rw (c.short.ensures, c.short-in-loop-r.ensures) refl)

pub returns : goal.returns
returns c = rw (filled_end 64 _ _ _ c.loop-r.invariant c.loop-r-test.false) refl
