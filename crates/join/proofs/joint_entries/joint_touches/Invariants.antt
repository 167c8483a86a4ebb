-- `joint_touches` meets its contract: the entries of the steps passed so far stand at the front.
use mathlib.Core.Path.{◌≡◌}
use lib.ListN.{take}
use Rattle.model.specs.Sheets.{most_steps}
use Rattle.model.specs.Values.{idles, padded}
use Rattle.join.specs.inner.Entries.{entries_of}
use Rattle.join.proofs.joint_entries.joint_touches.Given as goal

abbrev pub invariant-loop-t : goal.invariant-loop-t
invariant-loop-t l = l.touches ≡ padded (take l.t (entries_of l.n l.xs l.ys l.steps)) (idles most_steps)
