-- `page::put_blank_lines` meets its contract. The loop's invariant: the lines of blanks so far are put from `at` on.
use native.Mathlib.Omega.{arith}
use Rattle.page.specs.Page.{concatenated}
use Rattle.page.proofs.Parts.{lines_start, lines_more, blank-lines-next}
use Rattle.page.proofs.put_blank_lines.Goals as goal

pub loop-init : goal.loop-init
unfolding concatenated
loop-init c = lines_start (omega arith)

pub loop-preserved : goal.loop-preserved
loop-preserved c =
    let l = c.loop in
    lines_more l.invariant c.loop-test.true c.put_end-next.ensures (blank-lines-next l.counter)
