-- `decimal::front` meets its contract. The loop's invariant: the digits passed are a number, and `value` is its value.
use Rattle.decimal.proofs.Leading.{Led}
use Rattle.decimal.proofs.front.Given as goal

abbrev pub invariant-loop-length : goal.invariant-loop-length
invariant-loop-length l = Led l.s l.value l.length
