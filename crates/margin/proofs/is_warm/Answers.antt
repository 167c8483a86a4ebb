-- `margin::is_warm` meets its contract.
use mathlib.Core.Path.{◌∙◌}
use Rattle.margin.proofs.Times.{listed-any}
use Rattle.margin.proofs.is_warm.Goals as goal

pub returns : goal.returns
returns c = c.contains.ensures.value ∙ listed-any _ _
