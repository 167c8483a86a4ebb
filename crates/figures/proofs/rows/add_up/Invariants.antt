-- `figures::rows::add_up` meets its contract. The loop's invariant: the sum is that of the buckets passed.
use mathlib.Core.Path.{◌≡◌}
use Rattle.figures.specs.inner.Sweep.{summed}
use Rattle.figures.proofs.rows.add_up.Given as goal

abbrev pub invariant-loop-b : goal.invariant-loop-b
invariant-loop-b l = l.all ≡ summed l.buckets l.b-index
