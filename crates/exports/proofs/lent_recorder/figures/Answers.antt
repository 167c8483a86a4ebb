-- `exports::lent_recorder::figures` meets its contract: the recorder's answer decides.
use Rattle.exports.proofs.RecorderCalls.{figures_accepted, figures-refused}
use Rattle.exports.proofs.lent_recorder.figures.Goals as goal

pub returns-in-Ok : goal.returns-in-Ok
returns-in-Ok c = figures_accepted _ _ _ _ _ _ _ _ _ _ _ c.recorder_of-r.ensures _ c.in-Ok.ensures _ c.of_row.ensures

pub returns-in-Err : goal.returns-in-Err
returns-in-Err c = figures-refused _ _ _ _ _ _ _ _ _ _ _ c.recorder_of-r.ensures _ c.in-Err.ensures _ c.number.ensures
