-- `read_touches::touch_value::step_bytes` meets its contract: the first letter w is looked for, and counts at the end alone.
use native.Mathlib.Omega.{arith}
use Rattle.read_touches.proofs.TouchValues.{step-whole, step-unmarked, step-letter, step_other}
use Rattle.read_touches.proofs.touch_value.step_bytes.Goals as goal

pub returns-then-not-letters : goal.returns-then-not-letters
returns-then-not-letters c = record { within = omega arith; split = step-whole _ _ c.if-not-letters.true }

pub returns-in-None : goal.returns-in-None
returns-in-None c = record { within = omega arith; split = step-unmarked _ _ c.if-not-letters.false c.in-None.ensures.split }

pub returns-then-k-y : goal.returns-then-k-y
returns-then-k-y c =
    record { within = omega arith; split = step-letter _ _ _ c.if-not-letters.false c.in-Some.ensures.split c.if-k-y.true }

pub returns-else-k-y : goal.returns-else-k-y
returns-else-k-y c =
    record { within = omega arith; split = step_other _ _ _ c.if-not-letters.false c.in-Some.ensures.split c.if-k-y.false }
