-- `page::put_page` meets its contract: its parts are put one after another.
use native.Mathlib.Omega.{arith}
use Rattle.text.proofs.Putting.{put_then, put_same}
use Rattle.page.proofs.Parts.{page-parts}
use Rattle.page.proofs.put_page.Goals as goal

pub returns : goal.returns
returns c =
    let a = c.args in
    let q = put_then c.put_title-names.ensures.put
    (put_then c.put_names-first.ensures.put (put_then c.put_rows-blanks.ensures.put c.put_blank_lines.ensures.put)) in
    record { put = put_same (page-parts a.kind a.a a.rows.now) q; wide = omega arith }
