-- `exports::lent_recorder::start` meets its contract: the recorder's answer decides.
use Rattle.exports.proofs.RecorderCalls.{start-accepted, start-refused}
use Rattle.exports.proofs.lent_recorder.start.Goals as goal

pub returns-in-Ok : goal.returns-in-Ok
returns-in-Ok c =
    let r = c.start-answer in
    start-accepted _ _ r.result r.ensures _ _ _ _ _ _ _ _ c.in-Ok.is c.store_head.ensures c.store_taken.ensures

pub returns-in-Err : goal.returns-in-Err
returns-in-Err c =
    let r = c.start-answer in
    start-refused _ _ r.result r.ensures _ _ c.in-Err.is c.number.ensures
