-- `decimal::front` meets its contract. The loop's invariant: the digits passed are a number, and `value` is its value.
use mathlib.Core.Path.{◌≡◌, sym}
use mathlib.Core.Bool.{true}
use Prim.Native.Nat.{ℕ, ◌≤◌}
use native.Mathlib.Omega.{arith}
use lib.ListN.{get_or}
use Rattle.decimal.specs.Decimal.{is_digit}
use Rattle.decimal.proofs.Digits.{digit-bounds}
use Rattle.decimal.proofs.Leading.{led-start, led-step, led-room, led-gives, led-end, zero_number}
use Rattle.decimal.proofs.front.Goals.{Else-not-is_ascii_digit, Else-not-is_ascii_digit-2}
use Rattle.decimal.proofs.front.Goals as goal

-- the first byte, and that it is a digit
abbrev first_byte : Else-not-is_ascii_digit → ℕ
first_byte c = get_or c.args.s.now 0 0

first-digit : (c : Else-not-is_ascii_digit) → is_digit (first_byte c) ≡ true
first-digit c = sym c.if-not-is_ascii_digit.ensures.value

first-bounds : (c : Else-not-is_ascii_digit) → (48 ≤ first_byte c) × (first_byte c ≤ 57)
first-bounds c = digit-bounds (first_byte c) (first-digit c)

-- the same of the next byte
abbrev next-byte : Else-not-is_ascii_digit-2 → ℕ
next-byte c =
    get_or c.args.s.now c.loop-length.length 0

next-digit : (c : Else-not-is_ascii_digit-2) → is_digit (next-byte c) ≡ true
next-digit c = sym c.if-not-is_ascii_digit-2.ensures.value

next-bounds : (c : Else-not-is_ascii_digit-2) → (48 ≤ next-byte c) × (next-byte c ≤ 57)
next-bounds c = digit-bounds (next-byte c) (next-digit c)

pub returns-then-s-eq48 : goal.returns-then-s-eq48
returns-then-s-eq48 c = zero_number _ c.if-s-lt4.false c.if-s-eq48.true

pub overflow_sub-value : goal.overflow_sub-value
overflow_sub-value c = omega (arith, first-bounds (goal.at.overflow_sub-value c).Else-not-is_ascii_digit)

pub overflow_cast-value : goal.overflow_cast-value
overflow_cast-value c = omega (arith, first-bounds (goal.at.overflow_cast-value c).Else-not-is_ascii_digit)

pub loop-length-init : goal.loop-length-init
loop-length-init c = led-start _ c.if-s-lt4.false (first-digit (goal.at.loop-length-init c).Else-not-is_ascii_digit) c.if-s-eq48.false

pub returns-then-not-is_ascii_digit-2 : goal.returns-then-not-is_ascii_digit-2
returns-then-not-is_ascii_digit-2 c = led-gives _ _ _ c.loop-length.invariant

pub overflow_mul-value : goal.overflow_mul-value
overflow_mul-value c =
    omega (arith, led-room _ _ _ c.loop-length.invariant c.loop-length-test.true)

pub overflow_sub-value-in-loop-length : goal.overflow_sub-value-in-loop-length
overflow_sub-value-in-loop-length c = omega (arith, next-bounds c)

pub overflow_cast-value-in-loop-length : goal.overflow_cast-value-in-loop-length
overflow_cast-value-in-loop-length c = omega (arith, next-bounds c)

pub overflow_add-value : goal.overflow_add-value
overflow_add-value c =
    omega (arith, led-room _ _ _ c.loop-length.invariant c.loop-length-test.true, next-bounds c)

pub loop-length-preserved : goal.loop-length-preserved
loop-length-preserved c =
    led-step _ _ _ c.loop-length.invariant c.loop-length-test.true (next-digit c)

pub returns : goal.returns
returns c = led-end _ _ _ c.loop-length.invariant c.loop-length-test.false
