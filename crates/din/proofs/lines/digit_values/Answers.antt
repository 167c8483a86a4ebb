-- `digit_values` meets its contract. The loop's invariant: the values of the bytes below b are entered.
use Rattle.din.proofs.DigitValues.{entered_all}
use Rattle.din.proofs.lines.digit_values.Goals as goal

pub returns : goal.returns
returns c = entered_all _ _ c.loop-b.invariant c.loop-b-test.false
