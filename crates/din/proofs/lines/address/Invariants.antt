-- `address` meets its contract. The loop's invariant: the line from the head of `s` on is what is left of it after n digits of the
-- value.
use Rattle.din.proofs.FirstLines.{Along}
use Rattle.din.proofs.lines.address.Given as goal

abbrev pub invariant-loop-n : goal.invariant-loop-n
invariant-loop-n l = Along l.s l.address l.n
