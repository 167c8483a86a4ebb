-- `write_sheet::head_text::row_length` meets its contract: a price has at most five digits.
use native.Mathlib.Omega.{arith}
use Rattle.decimal.proofs.Written.{written-length}
use Rattle.sheet.proofs.Lengths.{row-length}
use Rattle.text.proofs.Lengths.{length-of}
use Rattle.write_sheet.proofs.head_text.row_length.Goals as goal

pub overflow_add-result : goal.overflow_add-result
overflow_add-result c = omega (arith, written-length 4 c.args.q.h (omega arith))

pub overflow_add-result-2 : goal.overflow_add-result-2
overflow_add-result-2 c =
    let q = c.args.q in
    omega (arith, written-length 4 q.h (omega arith), written-length 4 q.d (omega arith))

pub returns : goal.returns
returns c =
    let q = c.args.q in
    length-of (omega (arith, written-length 4 q.h (omega arith), written-length 4 q.d (omega arith), row-length q))
