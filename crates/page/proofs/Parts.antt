-- The page in the parts in which it is written.
use Prim.Native.Nat.{ℕ, ◌+◌, ◌*◌, ◌-◌, ◌≤◌, ◌<◌}
use mathlib.Core.Path.{◌≡◌, refl, ap}
use mathlib.Core.List.{List, [], ◌∷◌, ◌++◌, map, append_assoc, append-nil}
use native.Mathlib.Omega.{arith}
use lib.ListN.{length, get_or, take, drop, replicate, length-take, length-drop, drop_of_length-le}
use lib.Seq.{take_all, get_or-take, get_or-drop}
use Rattle.model.specs.Rows.{zero_figures}
use Rattle.model.specs.declared.Kind.{Kind}
use Rattle.model.specs.declared.Kind.TheVariants.{Time, Space}
use Rattle.model.specs.declared.RowFigures.{RowFigures}
use Rattle.decimal.specs.Decimal.{written}
use Rattle.text.specs.Keys.{line_feed, kind_key, kind_word, a_key}
use Rattle.text.specs.Texts.{lines_text}
use Rattle.text.proofs.Putting.{Filled, filled_start, filled_next}
use Rattle.text.proofs.Runs.{lines_next_lem}
use Rattle.page.specs.inner.Wide.{PutWide}
use Rattle.page.specs.Page.{
  rows_on_page,
  blank,
  blanks,
  field,
  spaced,
  columns,
  page_line,
  title_line,
  names_line,
  row_line,
  blank_line,
  page_lines,
  second_page,
  all_lines,
  concatenated,
  pages,
  Fits,
  EachFits,
}
use Rattle.page.proofs.Blanks.{replicate_next, columns-length, concatenated-append, concatenated-next, second-some}

-- ---- lines

-- the line of a row: its fields, and four blanks and the line feed
pub row-parts : (f : RowFigures) → Fits f
    → field 7 (written f.h) ++ (spaced 7 (written f.d) ++ (spaced 8 (written f.misses) ++ (spaced 12 (written f.volume)
    ++ (spaced 12 (written f.load.0) ++ (spaced 12 (written f.mean) ++ (blanks 4 ++ (line_feed ∷ [])))))))
    ≡ row_line f
unfolding row_line page_line columns
row-parts f g =
    let c = columns-length (written f.h) (written f.d) (written f.misses) (written f.volume) (written f.load.0)
    (written f.mean) g.h_fits g.d_fits g.misses_fits g.volume_fits g.load_fits g.mean_fits in
    rw c
    (six (field 7 (written f.h)) (spaced 7 (written f.d)) (spaced 8 (written f.misses)) (spaced 12 (written f.volume))
    (spaced 12 (written f.load.0)) (spaced 12 (written f.mean)) (blanks 4 ++ (line_feed ∷ [])))
  where
    six : (u v w x y z t : List ℕ) → u ++ (v ++ (w ++ (x ++ (y ++ (z ++ t))))) ≡ (u ++ (v ++ (w ++ (x ++ (y ++ z))))) ++ t
    six u v w x y z t = simp append_assoc

-- the words of line 1 have at most 13 characters
pub kind-within : (kind : Kind) → length (kind_key ++ (kind_word kind ++ (blank ∷ a_key))) ≤ 13
kind-within Time = omega arith
kind-within Space = omega arith

-- line 1: its words, the number, and blanks and the line feed
pub title-parts : (kind : Kind) (a at value end : ℕ) → value ≡ at + length (kind_key ++ (kind_word kind ++ (blank ∷ a_key)))
    → end ≡ value + length (written a)
    → (kind_key ++ (kind_word kind ++ (blank ∷ a_key))) ++ (written a ++ (blanks (at + 72 - end) ++ (line_feed ∷ []))) ≡ title_line kind a
unfolding title_line page_line
title-parts Time a at value end e f =
    let k : at + 72 - end ≡ 72 - length (kind_key ++ (kind_word Time ++ (blank ∷ (a_key ++ written a)))) = omega arith in
    rw k
title-parts Space a at value end e f =
    let k : at + 72 - end ≡ 72 - length (kind_key ++ (kind_word Space ++ (blank ∷ (a_key ++ written a)))) = omega arith in
    rw k

-- ---- runs of lines

-- lines made of a list
pub concatenated-map : {A : Type 0} (text : A → List ℕ) (xs : List A) → concatenated (map text xs) ≡ lines_text text xs
unfolding concatenated lines_text
concatenated-map text [] = refl
concatenated-map text (x ∷ xs) = rw (concatenated-map text xs)

-- one row more
pub rows_next : (fs : List RowFigures) (i : ℕ) (d : RowFigures) → i < length fs
    → concatenated (map row_line (take (i + 1) fs)) ≡ concatenated (map row_line (take i fs)) ++ row_line (get_or fs i d)
rows_next fs i d h =
    rw (concatenated-map row_line (take (i + 1) fs), concatenated-map row_line (take i fs), lines_next_lem row_line fs i d h)

-- a line of blanks
blank-parts : blank_line ≡ blanks 72 ++ (line_feed ∷ [])
unfolding blank_line page_line
blank-parts = refl

-- one line of blanks more
pub blank-lines-next : (i : ℕ)
    → concatenated (replicate (i + 1) blank_line) ≡ concatenated (replicate i blank_line) ++ (blanks 72 ++ (line_feed ∷ []))
blank-lines-next i = rw (← replicate_next i blank_line, concatenated-next)
    (ap (λ l. concatenated (replicate i blank_line) ++ l) blank-parts)

-- what holds where a loop has put i lines of n: each has 73 bytes
pub record LinesPut (i n : ℕ) (text : List ℕ) (at : ℕ) (place : List ℕ) (next : ℕ) (out : List ℕ) : Type 0 where
  pub filled : Filled i n text at place next out
  pub wide : next ≡ at + 73 * i

-- before the first
pub lines_start : {n at : ℕ} {p : List ℕ} → at ≤ length p → LinesPut 0 n [] at p at p
lines_start h = record { filled = filled_start _ _ _ h; wide = omega arith }

-- one line more
pub lines_more : {i n at m e : ℕ} {x y z p q r : List ℕ} → LinesPut i n x at p m q → i < n → PutWide y 73 m q e r
    → z ≡ x ++ y → LinesPut (i + 1) n z at p e r
lines_more f h g s =
    let w = f.wide in
    record { filled = filled_next f.filled h g.put s; wide = omega (arith, g.wide) }

-- ---- pages

-- of rows that fit, the first do and the rest do
pub fit-front : (n : ℕ) (fs : List RowFigures) → EachFits fs → EachFits (take n fs)
fit-front n fs g r lt =
    let e = length-take n fs in
    let low : r < n = omega arith in
    rw (get_or-take n fs r zero_figures low) (g r (omega arith))

pub fit-rest : (n : ℕ) (fs : List RowFigures) → EachFits fs → EachFits (drop n fs)
fit-rest n fs g r lt =
    let e = length-drop n fs in
    rw (get_or-drop n fs r zero_figures) (g (n + r) (omega arith))

-- the page of rows: its top lines, its rows, and the lines of blanks
pub page-parts : (kind : Kind) (a : ℕ) (fs : List RowFigures)
    → title_line kind a ++ (names_line ++ (concatenated (map row_line fs) ++ concatenated (replicate (58 - length fs) blank_line)))
    ≡ concatenated (page_lines kind a fs)
unfolding concatenated page_lines
page-parts kind a fs = rw (concatenated-append (map row_line fs) (replicate (58 - length fs) blank_line))

-- up to 58 rows: one page
pub one-page : (kind : Kind) (a : ℕ) (fs : List RowFigures) → length fs ≤ rows_on_page
    → concatenated (page_lines kind a fs) ≡ pages kind a fs
unfolding pages all_lines second_page
one-page kind a fs short =
    rw (take_all rows_on_page fs short, drop_of_length-le fs {i = rows_on_page} short, append-nil)

-- more rows: two pages
pub two-pages : (kind : Kind) (a : ℕ) (fs : List RowFigures) → rows_on_page < length fs
    → concatenated (page_lines kind a (take 58 fs)) ++ concatenated (page_lines kind a (drop 58 fs)) ≡ pages kind a fs
unfolding pages all_lines
two-pages kind a fs h =
    let some_rows : 0 < length (drop 58 fs) = rw length-drop (omega arith) in
    rw (second-some kind a (drop 58 fs) some_rows, concatenated-append)
