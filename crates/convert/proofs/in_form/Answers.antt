-- `convert::in_form` meets its contract: the head, the count and the entries stay.
use mathlib.Core.Path.{refl}
use Rattle.model.specs.Values.{value_of}
use Rattle.convert.proofs.in_form.Goals as goal

pub returns : goal.returns
unfolding value_of
returns c = refl
