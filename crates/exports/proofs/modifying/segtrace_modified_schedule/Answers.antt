-- `exports::modifying::segtrace_modified_schedule` meets its contract: what was told of the schedule's answer.
use Rattle.exports.proofs.Told.{place-call}
use Rattle.exports.proofs.modifying.segtrace_modified_schedule.Goals as goal

pub returns : goal.returns
returns c =
    place-call c.modified_schedule.result c.modified_schedule.ensures c.tell.ensures
