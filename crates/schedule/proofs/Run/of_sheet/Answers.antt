-- `of_sheet` meets its contract: the counts of an accepted sheet are within its arrays.
use mathlib.Core.Path.{refl}
use Rattle.model.specs.Values.{value_of, head_value_of}
use Rattle.schedule.proofs.Run.of_sheet.Goals as goal

pub returns : goal.returns
unfolding value_of head_value_of
returns c = refl
