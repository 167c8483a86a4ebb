-- `page::put_end` meets its contract: the blanks are put, and then the line feed.
use native.Mathlib.Omega.{arith}
use Rattle.text.proofs.Putting.{put_then, put_byte}
use Rattle.page.proofs.put_end.Goals as goal

pub returns : goal.returns
returns c =
    let b = c.put_blanks-last in
    record { put = put_then b.ensures.put (put_byte 10 b.result _ (omega arith)); wide = omega arith }
