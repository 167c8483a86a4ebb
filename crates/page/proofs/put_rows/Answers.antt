-- `page::put_rows` meets its contract. The loop's invariant: the lines of the rows passed are put from `at` on.
use native.Mathlib.Omega.{arith}
use Rattle.model.specs.Rows.{zero_figures}
use Rattle.page.specs.Page.{concatenated}
use Rattle.page.proofs.Parts.{lines_start, lines_more, rows_next}
use Rattle.page.proofs.put_rows.Goals as goal

pub loop-f-init : goal.loop-f-init
unfolding concatenated
loop-f-init c = lines_start (omega arith)

pub loop-f-preserved : goal.loop-f-preserved
loop-f-preserved c =
    let l = c.loop-f in
    lines_more l.invariant c.loop-f-test.true c.put_row-next.ensures (rows_next _ l.f-index zero_figures c.loop-f-test.true)
