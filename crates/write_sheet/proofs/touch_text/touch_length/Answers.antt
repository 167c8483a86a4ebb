-- `write_sheet::touch_text::touch_length` meets its contract: a segment has at most five digits, a step at most 20.
use Prim.Native.Nat.{◌≤◌}
use mathlib.Core.Bool.{cond}
use native.Mathlib.Omega.{arith}
use borrow.Table.Steps.{cases}
use lib.ListN.{length}
use Rattle.decimal.specs.Decimal.{written}
use Rattle.decimal.proofs.Written.{written-length}
use Rattle.text.proofs.Lengths.{length-of}
use Rattle.sheet.proofs.TouchLengths.{touch-length}
use Rattle.write_sheet.proofs.touch_text.touch_length.Goals.{Start}
use Rattle.write_sheet.proofs.touch_text.touch_length.Goals as goal

-- how many digits and letters there can be
record Few (s : Start) : Type 0 where
  segment : length (written s.args.x) ≤ 5
  step : length (written s.args.step) ≤ 20
  letter : cond s.args.modifies 1 0 ≤ 1

few : (s : Start) → Few s
few s = record {
  segment = written-length 4 s.args.x (omega arith);
  step = written-length 19 s.args.step (omega arith);
  letter = cases s.args.modifies (λ e. rw e (omega arith)) (λ e. rw e (omega arith));
}

pub returns : goal.returns
returns c =
    let w = few (goal.at.returns c).Start in
    length-of (omega (arith, touch-length (record { segment = c.args.x; step = c.args.step; modifies = c.args.modifies })))

pub overflow_add-result : goal.overflow_add-result
overflow_add-result c = let w = few (goal.at.overflow_add-result c).Start in omega arith

pub overflow_add-result-2 : goal.overflow_add-result-2
overflow_add-result-2 c = let w = few (goal.at.overflow_add-result-2 c).Start in omega arith

pub overflow_add-result-3 : goal.overflow_add-result-3
overflow_add-result-3 c = let w = few (goal.at.overflow_add-result-3 c).Start in omega arith
