-- `listing::row_text::put_marked` meets its contract: the row is put, and where the form has it modtotal= after it.
use mathlib.Core.Path.{sym, ap, ◌∙◌}
use native.Mathlib.Omega.{arith}
use lib.ListN.{length}
use Rattle.text.proofs.Putting.{put_then, put_same}
use Rattle.listing.proofs.RowParts.{modtotal-with, marked-with, marked-without, marked-length}
use Rattle.listing.proofs.row_text.put_marked.Goals as goal

pub put_row-end-requires : goal.put_row-end-requires
put_row-end-requires c =
    let a = c.args in
    omega (arith, marked-length a.form a.f a.modtotal)

pub put_number-requires : goal.put_number-requires
put_number-requires c =
    let a = c.args in
    let l = ap length (modtotal-with a.form a.modtotal (sym c.has_modtotal.ensures ∙ c.if-has_modtotal.true)) in
    omega (arith, l, marked-length a.form a.f a.modtotal, c.requires, c.put_row-end.ensures.ends)

pub returns-then-has_modtotal : goal.returns-then-has_modtotal
returns-then-has_modtotal c =
    let a = c.args in
    put_same (marked-with a.form a.f a.modtotal (sym c.has_modtotal.ensures ∙ c.if-has_modtotal.true))
    (put_then c.put_row-end.ensures c.put_number.ensures)

pub returns : goal.returns
returns c =
    let a = c.args in
    put_same (marked-without a.form a.f a.modtotal (sym c.has_modtotal.ensures ∙ c.if-has_modtotal.false)) c.put_row-end.ensures
