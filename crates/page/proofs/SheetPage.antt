-- The pages of a sheet, from the figures of all its rows.
use Prim.Native.Nat.{ℕ, ◌≤◌, ◌<◌}
use mathlib.Core.Path.{◌≡◌}
use mathlib.Core.List.{List}
use native.Mathlib.Omega.{arith}
use lib.ListN.{length, take, length-take}
use lib.Seq.{get_or-take}
use Rattle.model.specs.Rows.{zero_figures}
use Rattle.model.specs.Sheets.{SheetValue, Valid, most_rows}
use Rattle.model.specs.Standing.{Standing}
use Rattle.model.specs.Values.{value_of}
use Rattle.model.specs.declared.Kind.{Kind}
use Rattle.model.specs.declared.RowFigures.{RowFigures}
use Rattle.model.specs.declared.Sheet.{Sheet}
use Rattle.model.proofs.Standing.{rows-counted, kind-is, a_is}
use Rattle.model.specs.RowAnswers.{all_figures}
use Rattle.page.specs.Page.{pages, pages_of, EachFits}
use Rattle.page.proofs.Fitting.{every-field-fits}
use Rattle.model.proofs.RowAnswers.{figures-at, figures-front}

-- the page of a sheet from its kind, its a and the figures of all rows
pub page-is : (v : SheetValue) {kind : Kind} {a : ℕ} (rows : ℕ) → v.head.kind ≡ kind → v.head.a ≡ a → length v.head.rows ≡ rows
    → length v.head.rows ≤ most_rows → pages kind a (take rows (all_figures v)) ≡ pages_of v
unfolding pages_of
page-is v rows k a c most = rw (← k, ← a, ← c, figures-front v most)

-- and every field of it fits
pub page-fits : (v : SheetValue) → Valid v → {rows : ℕ} {all : List RowFigures} → length v.head.rows ≡ rows → all ≡ all_figures v
    → EachFits (take rows all)
page-fits v ok {rows} {all} c e r lt =
    let t = length-take rows all in
    let low : r < rows = omega arith in
    let here : r < length v.head.rows = omega (arith, c) in
    rw (get_or-take rows all r zero_figures low, e, figures-at v r zero_figures here ok.rows.rows_within) (every-field-fits v ok r here)

-- those of a standing sheet, from its counts
module _ (s : Sheet) (c : Standing s) where
  pub pages-of : pages s.head.kind s.head.a (take s.head.rows (all_figures (value_of s))) ≡ pages_of (value_of s)
  pages-of = page-is (value_of s) s.head.rows (kind-is s c) (a_is s c) (rows-counted s c) c.valid.rows.rows_within
