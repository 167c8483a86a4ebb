-- `decimal::read` meets its contract. The loop's invariant: the bytes passed are digits, and `v` is their value, cut off above `hi`.
use Rattle.decimal.proofs.Scanned.{Scanned}
use Rattle.decimal.proofs.read.Given as goal

abbrev pub invariant-loop-b : goal.invariant-loop-b
invariant-loop-b l = Scanned l.s l.hi l.v l.b-index
