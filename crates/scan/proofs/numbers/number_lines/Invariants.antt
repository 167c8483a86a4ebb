-- `scan::numbers::number_lines` meets its contract. The loop's invariant: the numbers of the lines passed stand at the front of `out`.
use Rattle.scan.proofs.LinesPassed.{PassedWhole, numbers}
use Rattle.scan.proofs.numbers.number_lines.Given as goal

abbrev pub invariant-loop-entry : goal.invariant-loop-entry
invariant-loop-entry l = PassedWhole (numbers l.key l.lo l.hi) tt l.s l.initial.out l.out tt l.at l.entry-index
