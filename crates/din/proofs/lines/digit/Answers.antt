-- `digit` meets its contract: how far a byte stands past the first of a range says whether it lies in it.
use native.Mathlib.Omega.{arith}
use Rattle.din.proofs.Digits.{decimal_digit, upper-digit, lower-digit, no_digit}
use Rattle.din.proofs.lines.digit.Goals as goal

pub returns-then-past_0-lt10 : goal.returns-then-past_0-lt10
returns-then-past_0-lt10 c = let b = c.args.b in omega (arith, decimal_digit b (omega arith) (omega arith))

pub returns-then-past_upper-lt6 : goal.returns-then-past_upper-lt6
returns-then-past_upper-lt6 c = let b = c.args.b in omega (arith, upper-digit b (omega arith) (omega arith))

pub returns-then-past_lower-lt6 : goal.returns-then-past_lower-lt6
returns-then-past_lower-lt6 c = let b = c.args.b in omega (arith, lower-digit b (omega arith) (omega arith))

pub returns : goal.returns
returns c =
    let b = c.args.b in
    no_digit b (λ p q. omega arith) (λ p q. omega arith) (λ p q. omega arith)
