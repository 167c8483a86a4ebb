-- `margin::unreferenced_time` meets its contract. The loop's invariant: none of the steps after the first i, up to t, touches the segment.
use Rattle.margin.proofs.Times.{Since}
use Rattle.margin.proofs.unreferenced_time.Given as goal

abbrev pub invariant-loop-i : goal.invariant-loop-i
invariant-loop-i l = Since l.segment l.refs l.t l.i
