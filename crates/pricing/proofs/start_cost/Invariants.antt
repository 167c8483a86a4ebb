-- `start_cost` meets its contract. The loop's invariant: the segments below i are added up.
use Rattle.pricing.proofs.StartCosts.{Added}
use Rattle.pricing.proofs.start_cost.Given as goal

abbrev pub invariant-loop-i : goal.invariant-loop-i
invariant-loop-i l = Added l.run.kind l.run.sizes.now l.run.warm.now l.cost.0 l.i
