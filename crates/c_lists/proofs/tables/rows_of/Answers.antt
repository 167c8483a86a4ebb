-- `tables::rows_of` meets its contract. The loop's invariant: the first i rows are stored.
use mathlib.Core.Path.{refl, sym, ◌∙◌}
use Rattle.c_lists.proofs.PriceRows.{length-rows_of, get_or-rows_of}
use Rattle.c_lists.proofs.BucketSums.{filled_start, filled_step, filled_end}
use Rattle.c_lists.proofs.tables.rows_of.Goals as goal

pub loop-i-init : goal.loop-i-init
loop-i-init c = filled_start 64 _ _ (length-rows_of _ _ (c.told-h ∙ sym c.told-d) ∙ c.told-h) refl

pub loop-i-preserved : goal.loop-i-preserved
loop-i-preserved c =
    filled_step 64 _ _ _ _ (record { h = 0; d = 0 }) c.loop-i.invariant c.loop-i-test.true
    (get_or-rows_of _ _ (c.told-h ∙ sym c.told-d) _)

pub returns : goal.returns
returns c = filled_end 64 _ _ _ c.loop-i.invariant c.loop-i-test.false
