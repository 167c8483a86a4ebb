-- `read_touches::touch_lines` meets its contract. The loop's invariant: the touches of the lines passed are put into the entries and
-- the marks; the short lines at the front are passed before it.
use Rattle.read_touches.specs.inner.Passed.{PassedTouches}
use Rattle.read_touches.proofs.touch_lines.Given as goal

abbrev pub invariant-loop-i : goal.invariant-loop-i
invariant-loop-i l = PassedTouches l.letters l.segs l.steps l.n l.s l.entries l.marks l.step l.at l.i
