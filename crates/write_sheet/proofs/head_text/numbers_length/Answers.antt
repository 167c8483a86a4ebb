-- `write_sheet::head_text::numbers_length` meets its contract. The loop's invariant: `sum` is the length of the lines of the numbers
-- passed.
use native.Mathlib.Omega.{arith}
use Rattle.text.specs.Texts.{lines_text}
use Rattle.text.proofs.Lengths.{added-start, added_next, length-of}
use Rattle.text.proofs.Runs.{lines_next_lem}
use Rattle.write_sheet.proofs.head_text.numbers_length.Goals as goal

pub loop-x-init : goal.loop-x-init
unfolding lines_text
loop-x-init c = added-start _ _

pub loop-x-preserved : goal.loop-x-preserved
loop-x-preserved c =
    let l = c.loop-x in
    added_next l.invariant c.loop-x-test.true (lines_next_lem _ _ l.x-index 0 c.loop-x-test.true)
    (length-of (c.number_length-sum.ensures.is_length, omega arith))
