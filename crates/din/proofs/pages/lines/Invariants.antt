-- `lines` meets its contract. The loop's invariant: the table, the counts and the touches hold the lines passed. The measure is what is
-- left of the bytes.
use Prim.Native.Nat.{◌-◌}
use lib.ListN.{length}
use Rattle.din.specs.inner.Held.{pages_of, marks_of}
use Rattle.din.proofs.Going.{Going}
use Rattle.din.proofs.pages.lines.Given as goal

abbrev pub invariant-loop-at : goal.invariant-loop-at
invariant-loop-at l = Going l.k l.bytes (pages_of l.table) (marks_of l.table) l.touches l.segs l.steps l.at

abbrev pub decreases-loop-at : goal.decreases-loop-at
decreases-loop-at l = length l.bytes - l.at
