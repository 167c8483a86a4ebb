-- `write_sheet::head_text::rows_length` meets its contract. The loop's invariant: `sum` is the length of the lines of the rows passed.
use Rattle.text.specs.Texts.{lines_text}
use Rattle.text.proofs.Lengths.{added-start, added_next}
use Rattle.text.proofs.Runs.{lines_next_lem}
use Rattle.write_sheet.proofs.head_text.rows_length.Goals as goal

pub loop-q-init : goal.loop-q-init
unfolding lines_text
loop-q-init c = added-start _ _

pub loop-q-preserved : goal.loop-q-preserved
loop-q-preserved c =
    let l = c.loop-q in
    added_next l.invariant c.loop-q-test.true (lines_next_lem _ _ l.q-index _ c.loop-q-test.true) c.row_length-sum.ensures
