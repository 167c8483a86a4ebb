-- `decimal::width` meets its contract. The loop's invariant: ten times the power is 10 to the power `w`, and `n` has at least `w` digits.
use mathlib.Core.Path.{◌≡◌, refl, sym, ap, ◌∙◌}
use Prim.Native.Nat.{ℕ, ◌+◌, ◌*◌, ◌^◌, ◌≤◌, ◌<◌}
use native.Mathlib.Nat.{pow-suc, pow-le-pow_right}
use native.Mathlib.Numerals.{add-one}
use native.Mathlib.Omega.{arith}
use Rattle.decimal.proofs.Written.{written-some, written-exact, written-longer}
use Rattle.decimal.proofs.width.Goals as goal

-- the powers that the loop reaches fit 64 bits
last-power : (w : ℕ) → w < 20 → 10 ^ w ≤ 10 ^ 19
last-power w h = pow-le-pow_right (omega arith) {i = w} {j = 19} (omega arith)

-- ten times the next power
power-next : (power w : ℕ) → power * 10 ≡ 10 ^ w → power * 10 * 10 ≡ 10 ^ (w + 1)
power-next power w e = rw (add-one w, pow-suc 10 w) (ap (λ p. p * 10) e)

-- the loop ends at 20
last-width : (w : ℕ) → (w < 20 → ⊥) → w ≤ 20 → w ≡ 20
last-width w h l = omega arith

pub loop-w-init : goal.loop-w-init
loop-w-init c = record { power_is = refl; some = omega arith; no_more = written-some _; most = omega arith }

pub overflow_mul-power : goal.overflow_mul-power
overflow_mul-power c = omega (arith, c.loop-w.invariant.power_is, last-power c.loop-w.w (omega arith))

pub returns-then-n-power : goal.returns-then-n-power
returns-then-n-power c =
    let l = c.loop-w in
    written-exact l.w _ l.invariant.some l.invariant.no_more (omega (arith, l.invariant.power_is, c.if-n-power.true))

pub loop-w-preserved : goal.loop-w-preserved
loop-w-preserved c =
    let l = c.loop-w in
    record {
      power_is = power-next l.power l.w l.invariant.power_is;
      some = omega arith;
      no_more =
          omega (arith, written-longer l.w c.args.n (omega (arith, l.invariant.power_is, c.if-n-power.false)));
      most = omega arith;
    }

pub returns : goal.returns
returns c =
    let l = c.loop-w in
    let e = last-width l.w (omega arith) l.invariant.most in
    sym e ∙ written-exact l.w _ l.invariant.some l.invariant.no_more (rw e (omega arith))
