-- `exports::lent_recorder::touch` meets its contract: the recorder's answer decides.
use Rattle.exports.proofs.RecorderCalls.{touch-accepted, touch-refused}
use Rattle.exports.proofs.lent_recorder.touch.Goals as goal

pub returns-in-Ok : goal.returns-in-Ok
returns-in-Ok c =
    touch-accepted _ _ _ _ _ _ _ _ _ _ c.touch-answer.result c.recorder_of-r.ensures c.touch-answer.ensures _ _ _
    c.in-Ok.is
    c.store_taken.ensures

pub returns-in-Err : goal.returns-in-Err
returns-in-Err c =
    touch-refused _ _ _ _ _ _ _ _ _ _ c.touch-answer.result c.recorder_of-r.ensures c.touch-answer.ensures _ _
    c.in-Err.is
    c.number.ensures
