-- `write_sheet::head_text::put_rows` meets its contract. The loop's invariant: the lines of the rows passed are put from `at` on.
use native.Mathlib.Omega.{arith}
use lib.ListN.{length}
use lib.Seq.{take-length}
use Rattle.sheet.specs.Values.{row_text}
use Rattle.text.proofs.Putting.{filled_start, filled_next}
use Rattle.text.specs.Texts.{lines_text}
use Rattle.text.proofs.Runs.{lines_next_lem, lines-room}
use Rattle.write_sheet.proofs.head_text.put_rows.Goals as goal

pub loop-q-init : goal.loop-q-init
unfolding lines_text
loop-q-init c = filled_start _ _ _ (omega arith)

pub put_row-next-requires : goal.put_row-next-requires
put_row-next-requires c =
    let l = c.loop-q in
    let a = c.args in
    let r = lines-room row_text a.rows.now l.q-index (length a.rows.now) (record { h = 0; d = 0 }) c.loop-q-test.true c.loop-q-test.true in
    omega (arith, rw take-length at r, l.invariant.put.ends)

pub loop-q-preserved : goal.loop-q-preserved
loop-q-preserved c =
    let l = c.loop-q in
    filled_next l.invariant c.loop-q-test.true c.put_row-next.ensures (lines_next_lem _ _ l.q-index _ c.loop-q-test.true)
