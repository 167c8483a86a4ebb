-- `write_sheet::touch_text::put_touches` meets its contract. The loop's invariant: the lines of the entries passed are put from `at` on.
use native.Mathlib.Omega.{arith}
use Rattle.text.specs.Texts.{lines_text}
use Rattle.sheet.specs.Touches.{touches_from}
use Rattle.text.proofs.Putting.{filled_start, filled_next}
use Rattle.write_sheet.proofs.TouchLines.{text-next, text-room}
use Rattle.write_sheet.proofs.touch_text.put_touches.Goals as goal

pub loop-i-init : goal.loop-i-init
unfolding touches_from lines_text
loop-i-init c = filled_start _ _ _ (omega arith)

pub put_entry-next-requires : goal.put_entry-next-requires
put_entry-next-requires c =
    let l = c.loop-i in
    let r = text-room c.args.marks.now c.args.entries.now l.i c.loop-i-test.true in
    (omega (arith, c.requires), omega (arith, r, c.requires, l.invariant.put.ends))

pub loop-i-preserved : goal.loop-i-preserved
loop-i-preserved c =
    let l = c.loop-i in
    let a = c.args in
    filled_next l.invariant c.loop-i-test.true c.put_entry-next.ensures
    (text-next a.marks.now a.entries.now l.i c.loop-i-test.true)
