-- The loop's invariant of `vectors::show::unchanged`: the count is at most the bytes passed.
use Rattle.std.proofs.Common.{◌≤◌}
use Rattle.vectors.proofs.show.unchanged.Given as goal

abbrev pub invariant-loop-b : goal.invariant-loop-b
invariant-loop-b l = l.n ≤ l.b-index
