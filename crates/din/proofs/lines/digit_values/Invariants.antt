-- `digit_values` meets its contract. The loop's invariant: the values of the bytes below b are entered.
use Rattle.din.proofs.DigitValues.{Entered}
use Rattle.din.proofs.lines.digit_values.Given as goal

abbrev pub invariant-loop-b : goal.invariant-loop-b
invariant-loop-b l = Entered l.values l.b
