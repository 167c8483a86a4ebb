-- The loop's invariant of `reader::value_along`: the reader is on the same bytes, past as many lines of them as there were turns.
use Rattle.std.proofs.Common.{◌≡◌, drop}
use Rattle.reader.specs.Along.{left_after}
use Rattle.reader.proofs.value_along.Given as goal

abbrev pub invariant-loop : goal.invariant-loop
invariant-loop l = record {
  same_bytes : l.r.src.now ≡ l.s;
  passed : drop l.r.at l.s ≡ left_after l.counter l.s;
}
