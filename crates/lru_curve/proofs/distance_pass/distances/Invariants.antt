-- `lru_curve::distance_pass::distances` meets its contract: after each step the list is the recency list, and the counts are those of the
-- steps so far.
use Rattle.lru_curve.proofs.Passes.{Passed}
use Rattle.lru_curve.proofs.distance_pass.distances.Given as goal

abbrev pub invariant-loop-x : goal.invariant-loop-x
invariant-loop-x l = Passed l.sizes l.refs l.list l.n l.at l.looked l.x-index
