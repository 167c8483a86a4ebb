-- `lru_curve::distance_pass::curve` meets its contract: the running sum is the number of misses with as many frames as are left.
use Rattle.lru_curve.proofs.Sums.{Summed}
use Rattle.lru_curve.proofs.distance_pass.curve.Given as goal

abbrev pub invariant-loop-k : goal.invariant-loop-k
invariant-loop-k l = Summed l.sizes l.refs l.initial.place l.place l.misses l.k
