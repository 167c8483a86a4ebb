-- `page::put_field` meets its contract: the blanks are put, and then the digits.
use native.Mathlib.Omega.{arith}
use Rattle.decimal.specs.Decimal.{written}
use Rattle.text.proofs.Putting.{put_then, put_same, put_of}
use Rattle.page.proofs.Blanks.{aligned}
use Rattle.page.proofs.put_field.Goals as goal

pub returns : goal.returns
returns c =
    let w = c.write in
    let n = c.width in
    let a = c.args in
    let p = put_of (written a.n) _ _ (omega arith) w.ensures.0 w.ensures.1 in
    let t = aligned a.gap a.width n.result (written a.n) n.ensures in
    record { put = put_same t (put_then c.put_blanks-first.ensures.put p); wide = omega arith }
