-- `read_touches::short_touches` meets its contract. The loop's invariant: the touches of the lines passed are put into the entries and the
-- marks.
use lib.ListN.{length}
use Rattle.read_touches.specs.inner.Passed.{PassedTouches}
use Rattle.read_touches.proofs.short_touches.Given as goal

abbrev pub invariant-loop-count : goal.invariant-loop-count
invariant-loop-count l = PassedTouches l.letters l.segs (length l.initial.entries) l.n l.s l.entries l.marks l.step l.next l.count
