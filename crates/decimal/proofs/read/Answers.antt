-- `decimal::read` meets its contract. The loop's invariant: the bytes passed are digits, and `v` is their value, cut off above `hi`.
use mathlib.Core.Path.{sym}
use native.Mathlib.Omega.{arith}
use Rattle.decimal.proofs.Digits.{digit-bounds}
use Rattle.decimal.proofs.Readings.{reading-none}
use Rattle.decimal.proofs.Scanned.{scan-start, scan_step, scan-stop, scan-out, scan-within}
use Rattle.decimal.proofs.read.Goals.{then-v-from-via-then-v-from, then-v-from-via-else-v-from+then-from-v}
use Rattle.decimal.proofs.read.Goals as goal

pub returns-then-not-begins : goal.returns-then-not-begins
returns-then-not-begins c = sym (reading-none _ _ _ c.if-not-begins.ensures)

pub loop-b-init : goal.loop-b-init
loop-b-init c = scan-start _ _ c.if-not-begins.ensures

pub returns-then-not-is_ascii_digit : goal.returns-then-not-is_ascii_digit
returns-then-not-is_ascii_digit c = sym (scan-stop _ _ _ _ c.loop-b.invariant _ c.loop-b-test.true (sym c.if-not-is_ascii_digit.ensures.value))

pub loop-b-preserved : goal.loop-b-preserved
loop-b-preserved c =
    let d = digit-bounds _ (sym c.if-not-is_ascii_digit.ensures.value) in
    rw c.pushed-v.ensures (scan_step _ _ _ _ c.loop-b.invariant c.loop-b-test.true d.0 d.1)

pub returns-then-v-from : goal.returns-then-v-from
returns-then-v-from c =
    sym (scan-out _ _ _ _ c.loop-b.invariant _ c.loop-b-test.false (λ l u.
    elim c.then-v-from.branch [
      | then-v-from-via-then-v-from w ↦ omega (arith, w.if-v-from.true)
      | then-v-from-via-else-v-from+then-from-v w ↦ omega (arith, w.if-from-v.true)
    ]))

pub returns : goal.returns
returns c = sym (scan-within _ _ _ _ c.loop-b.invariant _ c.loop-b-test.false (omega arith) (omega arith))
