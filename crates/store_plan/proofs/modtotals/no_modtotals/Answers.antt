-- `store_plan::modtotals::no_modtotals` meets its contract: the array has zeros.
use mathlib.Core.Path.{refl}
use Rattle.model.specs.Values.{zeros}
use Rattle.store_plan.proofs.modtotals.no_modtotals.Goals as goal

pub returns : goal.returns
unfolding zeros
returns c = refl
