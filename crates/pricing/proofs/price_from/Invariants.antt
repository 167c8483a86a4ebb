-- `price_from` meets its contract. The loop's invariant: the first t steps are accepted, and c has their costs.
use Rattle.schedule.specs.inner.Runs.{trace}
use Rattle.pricing.specs.inner.Steps.{Through}
use Rattle.pricing.proofs.price_from.Given as goal

abbrev pub invariant-loop-t : goal.invariant-loop-t
invariant-loop-t l = Through (trace l.handed.run) l.handed.schedule.now l.t l.c
