-- `Recorder::touch_all` meets its contract, by the verdict on the references.
use mathlib.Core.Path.{sym, ◌∙◌}
use Rattle.recorder.proofs.Answers.{all-refused, all-accepted}
use Rattle.recorder.proofs.Recorder.touch_all.Goals as goal

pub take_all-requires : goal.take_all-requires
take_all-requires c = rw c.min-segs.ensures at (sym c.acceptable-verdict.ensures ∙ c.in-Ok.is)

pub returns-in-Ok : goal.returns-in-Ok
returns-in-Ok c =
    rw c.in-Ok.is
    (all-accepted _ _ _ (rw c.min-segs.ensures at (sym c.acceptable-verdict.ensures ∙ c.in-Ok.is)) c.take_all.ensures.none
    c.take_all.ensures.all)

pub returns-in-Err : goal.returns-in-Err
returns-in-Err c =
    rw c.in-Err.is (all-refused _ _ _ (rw c.min-segs.ensures at (sym c.acceptable-verdict.ensures ∙ c.in-Err.is)))
