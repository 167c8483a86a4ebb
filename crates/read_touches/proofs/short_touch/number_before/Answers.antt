-- `read_touches::short_touch::number_before` meets its contract: the byte after the digits is `mark`.
use native.Mathlib.Omega.{arith}
use Rattle.read_touches.proofs.ShortTouches.{number-then}
use Rattle.read_touches.proofs.short_touch.number_before.Goals as goal

pub returns : goal.returns
returns c =
    let f = c.in_ok-found.ensures in
    record { within = omega arith; same = number-then _ _ _ _ f.number f.value_is (omega arith) c.if-s-found-2.false }
