-- `model::start_table` meets its contract: the table holds the warm segments passed so far.
use native.Mathlib.Numerals.{add-one}
use Rattle.model.proofs.LastTouches.{start_table-more, start_table-beyond}
use Rattle.model.proofs.start_table.Goals.{then-i-lt-MAX_SEGS, else-i-lt-MAX_SEGS}
use Rattle.model.proofs.start_table.Goals as goal

pub loop-segment-preserved : goal.loop-segment-preserved
loop-segment-preserved c =
    let l = c.loop-segment in
    let n = l.segment-index in
    let xs = c.args.warm.now in
    elim c.if-i-lt-MAX_SEGS.branch [
      | then-i-lt-MAX_SEGS w ↦ rw (add-one n, w.last-is, l.invariant) (start_table-more xs n c.loop-segment-test.true w.if-i-lt-MAX_SEGS.true)
      | else-i-lt-MAX_SEGS w ↦ rw (add-one n, w.last-is, l.invariant) (start_table-beyond xs n c.loop-segment-test.true w.if-i-lt-MAX_SEGS.false)
    ]
