-- `mask_table` meets its contract: after i turns the masks of the segments below i are in the table. The measure is what is left of 256.
use Prim.Native.Nat.{◌-◌, ◌≤◌}
use mathlib.Core.Path.{◌≡◌}
use Rattle.schedule.proofs.Masks.{masks_below}
use Rattle.schedule.proofs.writing.mask_table.Given as goal

abbrev pub invariant-loop-i : goal.invariant-loop-i
invariant-loop-i l = (l.i ≤ 256) × (l.masks ≡ masks_below l.i)

abbrev pub decreases-loop-i : goal.decreases-loop-i
decreases-loop-i l = 256 - l.i
