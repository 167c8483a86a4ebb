-- `Recorder::touch` meets its contract, by the verdict on the reference.
use mathlib.Core.Path.{sym, ◌∙◌}
use Rattle.recorder.proofs.Answers.{ref-room, one-refused, one-taken}
use Rattle.recorder.proofs.Recorder.touch.Goals as goal

pub take_one-requires : goal.take_one-requires
take_one-requires c = ref-room _ _ _ (rw c.min-segs.ensures at (sym c.touch_verdict-verdict.ensures ∙ c.in-Ok.is))

pub returns-in-Ok : goal.returns-in-Ok
returns-in-Ok c =
    rw c.in-Ok.is
    (one-taken _ _ _ (rw c.min-segs.ensures at (sym c.touch_verdict-verdict.ensures ∙ c.in-Ok.is)) c.take_one.ensures)

pub returns-in-Err : goal.returns-in-Err
returns-in-Err c =
    rw c.in-Err.is (one-refused _ _ _ (rw c.min-segs.ensures at (sym c.touch_verdict-verdict.ensures ∙ c.in-Err.is)))
