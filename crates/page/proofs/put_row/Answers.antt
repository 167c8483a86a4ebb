-- `page::put_row` meets its contract: the six fields are put one after another, and the end of the line.
use native.Mathlib.Omega.{arith}
use Rattle.text.proofs.Putting.{put_then, put_same}
use Rattle.page.proofs.Parts.{row-parts}
use Rattle.page.proofs.put_row.Goals as goal

pub returns : goal.returns
returns c =
    let (fits, room) = c.requires in
    let p = put_then c.put_field-d.ensures.put (put_then c.put_field-misses.ensures.put (put_then c.put_field-volume.ensures.put
    (put_then c.put_field-load.ensures.put (put_then c.put_field-mean.ensures.put
    (put_then c.put_field-last.ensures.put c.put_end.ensures.put))))) in
    record { put = put_same (row-parts c.args.f fits) p; wide = omega arith }
