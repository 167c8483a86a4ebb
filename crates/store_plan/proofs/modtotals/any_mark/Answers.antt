-- `any_mark` meets its contract.
use mathlib.Core.Path.{◌∙◌}
use Rattle.store_plan.proofs.RowTotals.{some-searched}
use Rattle.store_plan.proofs.modtotals.any_mark.Goals as goal

pub returns : goal.returns
returns c = c.contains.ensures.value ∙ some-searched c.args.marks.now
