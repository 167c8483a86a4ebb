-- `listing::longest_place` meets its contract: the array has zeros.
use mathlib.Core.Path.{refl}
use Rattle.model.specs.Values.{zeros}
use Rattle.listing.proofs.longest_place.Goals as goal

pub returns : goal.returns
unfolding zeros
returns c = refl
