-- `write_sheet::touch_text::touches_length` meets its contract. The loop's invariant: `sum` is the length of the lines of the entries
-- passed.
use Rattle.text.specs.Texts.{lines_text}
use Rattle.sheet.specs.Touches.{touches_from}
use Rattle.text.proofs.Lengths.{added-start, added_next}
use Rattle.write_sheet.proofs.TouchLines.{text-next}
use Rattle.write_sheet.proofs.touch_text.touches_length.Goals as goal

pub loop-i-init : goal.loop-i-init
unfolding touches_from lines_text
loop-i-init c = added-start _ _

pub loop-i-preserved : goal.loop-i-preserved
loop-i-preserved c =
    let l = c.loop-i in
    let a = c.args in
    added_next l.invariant c.loop-i-test.true (text-next a.marks.now a.entries.now l.i c.loop-i-test.true)
    c.entry_length-sum.ensures
