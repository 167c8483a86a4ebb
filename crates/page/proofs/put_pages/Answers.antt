-- `page::put_pages` meets its contract: one page, or one after the other.
use Prim.Native.Nat.{◌-◌}
use mathlib.Core.Path.{◌≡◌, sym}
use mathlib.Core.List.{List}
use native.Mathlib.Omega.{arith}
use lib.ListN.{length, take, drop, length-take, length-drop}
use lib.Seq.{length-take-le, take_all}
use Rattle.model.specs.declared.RowFigures.{RowFigures}
use Rattle.text.proofs.Putting.{put_then, put_same}
use Rattle.page.proofs.Parts.{one-page, two-pages, fit-front, fit-rest}
use Rattle.page.proofs.Lines.{pages-least, pages-two}
use Rattle.page.proofs.put_pages.Goals as goal

-- the rows from the one at 58 on
rest : (fs : List RowFigures) → take (length fs - 58) (drop 58 fs) ≡ drop 58 fs
rest fs = take_all (length fs - 58) (drop 58 fs) (omega (arith, length-drop 58 fs))

pub returns-then-rows-le58 : goal.returns-then-rows-le58
returns-then-rows-le58 c =
    let a = c.args in
    put_same (one-page a.kind a.a a.rows.now (omega arith)) c.put_page.ensures.put

pub put_page-second-requires : goal.put_page-second-requires
put_page-second-requires c =
    let (few, fit, room) = c.requires in
    let rows = c.args.rows.now in
    (simp length-take (omega arith), fit-front 58 rows fit, omega (arith, pages-least (length rows)))

pub slice_bounds-put_page-end : goal.slice_bounds-put_page-end
slice_bounds-put_page-end c = sym (length-take-le 58 c.args.rows.now (omega arith))

pub put_page-requires-2 : goal.put_page-requires-2
put_page-requires-2 c =
    let (few, fit, room) = c.requires in
    let rows = c.args.rows.now in
    let two = pages-two (length rows) (omega arith) in
    rw (rest rows) (omega (arith, length-drop 58 rows), fit-rest 58 rows fit, omega (arith, two, c.put_page-second.ensures.wide))

pub returns : goal.returns
returns c =
    let a = c.args in
    put_same (two-pages a.kind a.a a.rows.now (omega arith))
    (put_then c.put_page-second.ensures.put (rw (rest a.rows.now) at c.put_page-2.ensures.put))
