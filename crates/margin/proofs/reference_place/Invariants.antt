-- `margin::reference_place` meets its contract. The loop's invariant: the reference is the first of `left` from place t on.
use Rattle.margin.proofs.Places.{Looking}
use Rattle.margin.proofs.reference_place.Given as goal

abbrev pub invariant-loop-t : goal.invariant-loop-t
invariant-loop-t l = Looking l.segs l.refs l.n l.left l.t
