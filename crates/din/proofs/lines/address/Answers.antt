-- `address` meets its contract. The loop's invariant: the line from the head of `s` on is what is left of it after n digits of the
-- value.
use Prim.Native.Nat.{◌+◌, ◌*◌, ◌^◌, ◌<◌}
use mathlib.Core.Path.{◌≡◌, sym, ◌∙◌}
use native.Mathlib.Omega.{arith}
use lib.ListN.{get_or}
use Rattle.din.specs.Lines.{digit_of}
use Rattle.din.proofs.DigitValues.{value_of}
use Rattle.din.proofs.FirstLines.{along-start, along-end, along-empty, along-feed}
use Rattle.din.proofs.FirstLines.{along-full, along-none, along-fits, along-next}
use Rattle.din.proofs.lines.address.Goals.{After-from, Else-d-eq16}
use Rattle.din.proofs.lines.address.Goals as goal

-- what the table has at the byte is its value
value : (c : After-from) → get_or c.args.values.now c.from.result 0 ≡ digit_of (get_or c.args.s.now c.loop-n.n 0)
value c = rw c.from.ensures (value_of _ c.requires _ (omega (arith, c.type_inv.s c.loop-n.n)))

-- the address with one digit more
fits : (c : Else-d-eq16) → c.loop-n.address * 16 + get_or c.args.values.now c.from.result 0 < 2 ^ 32
fits c =
    along-fits _ _ _ c.loop-n.invariant c.loop-n-test.true c.if-b-eq10.false c.if-n-eq-MAX_DIGITS.false _
    (value (goal.at.overflow_mul-address c).After-from) c.if-d-eq16.false

pub loop-n-init : goal.loop-n-init
loop-n-init c = along-start _

pub returns-then-n-eq0-clause-result_value : goal.returns-then-n-eq0-clause-result_value
returns-then-n-eq0-clause-result_value c =
    along-empty _ _ _ c.loop-n.invariant c.loop-n-test.true c.if-b-eq10.true c.if-n-eq0.true

pub returns-then-b-eq10-clause-result_value : goal.returns-then-b-eq10-clause-result_value
returns-then-b-eq10-clause-result_value c =
    along-feed _ _ _ c.loop-n.invariant c.loop-n-test.true c.if-b-eq10.true (omega arith)

pub returns-then-n-eq-MAX_DIGITS-clause-result_value : goal.returns-then-n-eq-MAX_DIGITS-clause-result_value
returns-then-n-eq-MAX_DIGITS-clause-result_value c =
    along-full _ _ _ c.loop-n.invariant c.loop-n-test.true c.if-b-eq10.false c.if-n-eq-MAX_DIGITS.true

pub returns-then-d-eq16-clause-result_value : goal.returns-then-d-eq16-clause-result_value
returns-then-d-eq16-clause-result_value c =
    along-none _ _ _ c.loop-n.invariant c.loop-n-test.true c.if-b-eq10.false
    (sym c.if-d-eq16.true ∙ value (goal.at.returns-then-d-eq16-clause-result_value c).After-from)

pub overflow_mul-address : goal.overflow_mul-address
overflow_mul-address c = omega (arith, fits c)

pub overflow_add-address : goal.overflow_add-address
overflow_add-address c = omega (arith, fits (goal.at.overflow_add-address c).Else-d-eq16, c.from-in-loop-n.ensures)

pub loop-n-preserved : goal.loop-n-preserved
loop-n-preserved c =
    rw c.from-in-loop-n.ensures
    (along-next _ _ _ c.loop-n.invariant c.loop-n-test.true c.if-b-eq10.false c.if-n-eq-MAX_DIGITS.false _
    (value (goal.at.loop-n-preserved c).After-from) c.if-d-eq16.false)

pub returns-clause-result_value : goal.returns-clause-result_value
returns-clause-result_value c = along-end _ _ _ c.loop-n.invariant c.loop-n-test.false
