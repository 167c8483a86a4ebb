-- `c_lists::put_rows` meets its contract. The loop's invariant: the numbers of the rows passed are put at the front.
use mathlib.Core.Path.{sym}
use native.Mathlib.Omega.{arith}
use lib.ListN.{take}
use lib.Seq.{take_all}
use Rattle.std.proofs.lemmas.List.{length-take}
use Rattle.text.proofs.Putting.{put-nothing, put_same, put_then}
use Rattle.text.specs.Texts.{lines_text}
use Rattle.text.proofs.Runs.{lines_next_lem}
use Rattle.c_lists.proofs.RowNumbers.{rows_run, run_length}
use Rattle.c_lists.proofs.put_rows.Goals as goal

pub loop-f-init : goal.loop-f-init
unfolding lines_text
loop-f-init c = put-nothing _ _ (omega arith)

pub put_row-next-requires : goal.put_row-next-requires
put_row-next-requires c =
    let l = c.loop-f in
    let r = run_length (take c.args.n c.args.figures) l.f-index (omega arith) in
    omega (arith, r, length-take c.args.n c.args.figures, l.invariant.ends)

pub loop-f-preserved : goal.loop-f-preserved
loop-f-preserved c =
    let l = c.loop-f in
    let p = put_then l.invariant c.put_row-next.ensures in
    put_same (sym (lines_next_lem _ _ l.f-index _ c.loop-f-test.true)) p

pub returns : goal.returns
returns c =
    let l = c.loop-f in
    rw (take_all l.f-index (take c.args.n c.args.figures) c.loop-f-test.false, ← rows_run) at l.invariant
