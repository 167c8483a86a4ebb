-- `start_mask` meets its contract: the mask has the bits of the warm segments passed so far.
use mathlib.Core.Path.{◌≡◌}
use lib.ListN.{take}
use Rattle.schedule.specs.inner.Starting.{start_mask}
use Rattle.schedule.proofs.starting.start_mask.Given as goal

abbrev pub invariant-loop-entry : goal.invariant-loop-entry
invariant-loop-entry l = l.mask ≡ start_mask (take l.entry-index l.warm)
