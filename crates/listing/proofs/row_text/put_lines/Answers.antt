-- `listing::row_text::put_lines` meets its contract. The loop's invariant: the lines so far are put from `at` on.
use mathlib.Core.List.{[]}
use native.Mathlib.Omega.{arith}
use lib.ListN.{length}
use lib.Seq.{take-length}
use Rattle.text.specs.Texts.{number_text, lines_text}
use Rattle.text.proofs.Putting.{filled_start, filled_next}
use Rattle.text.proofs.Runs.{lines_next_lem, lines-room}
use Rattle.listing.proofs.row_text.put_lines.Goals as goal

pub loop-key-init : goal.loop-key-init
unfolding lines_text
loop-key-init c = filled_start _ _ _ (omega arith)

pub put_number-next-requires : goal.put_number-next-requires
put_number-next-requires c =
    let l = c.loop-key in
    let a = c.args in
    let r = lines-room (λ p. number_text p.0.now p.1) a.lines.now l.key-index (length a.lines.now) (record { ref_ptr = (0, 0); now = [] }, 0)
    c.loop-key-test.true c.loop-key-test.true in
    omega (arith, rw take-length at r, c.requires, l.invariant.put.ends, l.invariant.same_length)

pub loop-key-preserved : goal.loop-key-preserved
loop-key-preserved c =
    let l = c.loop-key in
    filled_next l.invariant c.loop-key-test.true c.put_number-next.ensures (lines_next_lem _ _ l.key-index _ c.loop-key-test.true)
