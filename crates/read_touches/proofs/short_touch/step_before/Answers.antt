-- `read_touches::short_touch::step_before` meets its contract: the digits reach up to the line feed, or to the letter w before it.
use mathlib.Core.Bool.{false≢true}
use native.Mathlib.Omega.{arith}
use Rattle.read_touches.proofs.ShortTouches.{step-feed, step-letter-feed}
use Rattle.read_touches.proofs.short_touch.step_before.Goals as goal

pub returns-then-s-length-eq10 : goal.returns-then-s-length-eq10
returns-then-s-length-eq10 c =
    let f = c.in_ok-found.ensures in
    record {
      within = omega arith;
      letter = λ e. absurd (false≢true e);
      same = step-feed _ _ _ f.number f.value_is (omega arith) c.if-s-length-eq10.true;
    }

pub returns : goal.returns
returns c =
    let f = c.in_ok-found.ensures in
    record {
      within = omega arith;
      letter = λ e. c.if-not-letters.false;
      same = step-letter-feed _ _ _ f.number f.value_is (omega arith) c.if-s-length-ne119.false c.if-s-next-ne10.false;
    }
