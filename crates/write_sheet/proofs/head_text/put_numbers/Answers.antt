-- `write_sheet::head_text::put_numbers` meets its contract. The loop's invariant: the lines of the numbers passed are put from `at` on.
use native.Mathlib.Omega.{arith}
use lib.ListN.{length}
use lib.Seq.{take-length}
use Rattle.text.specs.Texts.{number_text, lines_text}
use Rattle.text.proofs.Putting.{filled_start, filled_next}
use Rattle.text.proofs.Runs.{lines_next_lem, lines-room}
use Rattle.write_sheet.proofs.head_text.put_numbers.Goals as goal

pub loop-x-init : goal.loop-x-init
unfolding lines_text
loop-x-init c = filled_start _ _ _ (omega arith)

pub put_number-next-requires : goal.put_number-next-requires
put_number-next-requires c =
    let l = c.loop-x in
    let a = c.args in
    let r = lines-room (number_text a.key.now) a.xs.now l.x-index (length a.xs.now) 0 c.loop-x-test.true c.loop-x-test.true in
    omega (arith, rw take-length at r, l.invariant.put.ends)

pub loop-x-preserved : goal.loop-x-preserved
loop-x-preserved c =
    let l = c.loop-x in
    filled_next l.invariant c.loop-x-test.true c.put_number-next.ensures (lines_next_lem _ _ l.x-index 0 c.loop-x-test.true)
