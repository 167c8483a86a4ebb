-- `sheet_schedules::too_short` meets its contract: the room in steps decides.
use Rattle.sheet_schedules.proofs.PlanResults.{room-test}
use Rattle.sheet_schedules.proofs.too_short.Goals as goal

pub returns : goal.returns
returns c = room-test c.args.steps c.args.size
