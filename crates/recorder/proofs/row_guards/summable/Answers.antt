-- `recorder::row_guards::summable` meets its contract.
use Rattle.std.proofs.Common.{arith}
use Rattle.std.proofs.lemmas.Grind.{common_steps}
use Rattle.recorder.proofs.row_guards.summable.Goals as goal

pub returns-then-holds-3 : goal.returns-then-holds-3
returns-then-holds-3 c = grind (arith, common_steps)
