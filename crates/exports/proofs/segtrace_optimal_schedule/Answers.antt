-- `exports::segtrace_optimal_schedule` meets its contract: what was told of the schedule's answer.
use Rattle.exports.proofs.Told.{place-call}
use Rattle.exports.proofs.segtrace_optimal_schedule.Goals as goal

pub returns : goal.returns
returns c =
    place-call c.optimal_schedule.result c.optimal_schedule.ensures c.tell.ensures
