-- `text::number_length` meets its contract: a number of 64 bits has at most 20 digits.
use Prim.Native.Nat.{◌≤◌}
use native.Mathlib.Omega.{arith}
use lib.ListN.{length}
use Rattle.decimal.specs.Decimal.{written}
use Rattle.decimal.proofs.Written.{written-length}
use Rattle.text.proofs.Lengths.{line-length}
use Rattle.text.proofs.number_length.Goals.{Start}
use Rattle.text.proofs.number_length.Goals as goal

-- how many digits there can be
few : (s : Start) → length (written s.args.n) ≤ 20
few s = written-length 19 s.args.n (omega arith)

pub returns : goal.returns
returns c =
    let w = few (goal.at.returns c).Start in
    let l = line-length c.args.key.now (written c.args.n) in
    record { is_length = omega arith; at_most = omega arith }

pub overflow_add-result : goal.overflow_add-result
overflow_add-result c = omega (arith, few (goal.at.overflow_add-result c).Start)

pub overflow_add-result-2 : goal.overflow_add-result-2
overflow_add-result-2 c = omega (arith, few (goal.at.overflow_add-result-2 c).Start)
