-- `masked` meets its contract: what is taken off is within the byte, and the sum is within the union of byte and mask.
use lib.Bits.{and_le_l, or_lt, or_add_and}
use native.Mathlib.Omega.{arith}
use mathlib.Core.Path.{refl}
use Rattle.schedule.specs.inner.Writing.{masked}
use Rattle.schedule.proofs.writing.masked.Goals as goal

pub overflow_add-result : goal.overflow_add-result
overflow_add-result c =
    let a = c.args in
    omega (
      arith,
      or_lt 8 a.byte a.mask (omega arith) (omega arith),
      or_add_and a.byte a.mask,
      and_le_l a.byte a.mask,
      and_le_l a.mask a.on,
    )

pub returns : goal.returns
unfolding masked
returns c = refl
