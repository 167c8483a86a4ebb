-- `Recorder::figures` meets its contract, by its two answers.
use native.Mathlib.Omega.{arith}
use Rattle.recorder.proofs.Answers.{no-such-row, figured}
use Rattle.recorder.proofs.Recorder.figures.Goals as goal

pub returns-then-min-row : goal.returns-then-min-row
returns-then-min-row c = no-such-row _ _ (omega (arith, c.if-min-row.true, c.min.ensures))

pub returns : goal.returns
returns c = figured _ _ _ (omega (arith, c.if-min-row.false, c.min.ensures)) c.row_now.ensures
