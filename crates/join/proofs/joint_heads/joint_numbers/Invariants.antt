-- `joint_numbers` meets its contract: the first numbers, and those of the others that were moved so far, stand at the front.
use Prim.Native.Nat.{◌+◌}
use mathlib.Core.Path.{◌≡◌}
use lib.ListN.{length, take}
use Rattle.model.specs.Sheets.{most_segs}
use Rattle.model.specs.Values.{zeros, padded}
use Rattle.joint.specs.inner.Moved.{moved_after}
use Rattle.join.proofs.joint_heads.joint_numbers.Given as goal

abbrev pub invariant-loop-k : goal.invariant-loop-k
invariant-loop-k l = l.all ≡ padded (take (length l.xs + l.k) (moved_after l.xs l.n l.ys)) (zeros most_segs)
