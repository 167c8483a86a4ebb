-- `decimal::width` meets its contract. The loop's invariant: ten times the power is 10 to the power `w`, and `n` has at least `w` digits.
use mathlib.Core.Path.{◌≡◌}
use Prim.Native.Nat.{ℕ, ◌*◌, ◌^◌, ◌≤◌}
use lib.ListN.{length}
use Rattle.decimal.specs.Decimal.{written}
use Rattle.decimal.proofs.width.Given as goal

pub record Reached (n power w : ℕ) : Type 0 where
  pub power_is : power * 10 ≡ 10 ^ w
  pub some : 1 ≤ w
  pub no_more : w ≤ length (written n)
  pub most : w ≤ 20

abbrev pub invariant-loop-w : goal.invariant-loop-w
invariant-loop-w l = Reached l.n l.power l.w
