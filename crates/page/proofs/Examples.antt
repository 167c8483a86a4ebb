-- Lines of pages, computed from the definitions: that of the largest figures, a page of one row, and where the rows of more than one
-- page stand.
use Prim.Native.Nat.{ℕ, ◌*◌, ◌-◌}
use mathlib.Core.Path.{◌≡◌, refl}
use mathlib.Core.List.{List, [], ◌∷◌, ◌++◌, map}
use lib.ListN.{replicate, take, drop}
use Rattle.model.specs.Sums.{tabulate}
use Rattle.model.specs.declared.Kind.TheVariants.{Space}
use Rattle.model.specs.declared.RowFigures.{RowFigures}
use Rattle.decimal.specs.Decimal.{written, written_in}
use Rattle.text.proofs.Strings.{bytes}
use Rattle.page.specs.Page.{columns, page_line, title_line, names_line, row_line, blank_line, page_lines, second_page, all_lines}
use Rattle.page.specs.Page.{concatenated, pages, largest_figures}

-- the line of the largest figures: every field in its column, and the last four blanks
pub largest-row : row_line largest_figures
    ≡ bytes "  65535    65535      2048       8386560    2138574848    1048320000    \n"
unfolding bytes row_line page_line columns written written_in
largest-row = refl

-- figures that the page shows as these six; the others play no part
figures : ℕ → ℕ → ℕ → ℕ → ℕ → ℕ → RowFigures
figures h d misses volume load mean =
    record {
      h = h;
      d = d;
      misses = misses;
      volume = volume;
      load = record { 0 = load };
      optmem = record { 0 = 7 };
      opttotal = 7;
      optocc = 7;
      wsmem = 7;
      wsocc = 7;
      mean = mean;
    }

-- the pages of so many rows, of which row r has h = r
pages_with : ℕ → List ℕ
pages_with n = pages Space 1 (tabulate n (λ r. figures r 12 345 6789 12345 1000))

-- line n of a text, counted from 1: 72 characters and a line feed
line_in : List ℕ → ℕ → List ℕ
line_in text n = take 73 (drop (73 * (n - 1)) text)

-- the two top lines, the line of row r with two digits, and a blank line
title : List ℕ
title = bytes "kind=space a=1                                                          \n"

names : List ℕ
names = bytes "      h        d    misses        volume          load          mean    \n"

row : List ℕ → List ℕ
row digits = bytes "     " ++ digits ++ bytes "       12       345          6789         12345          1000    \n"

empty : List ℕ
empty = bytes "                                                                        \n"

-- one page of one row, whole: the other 57 lines are blank
one-row : pages_with 1 ≡ title ++ names ++ row (bytes " 0") ++ concatenated (replicate 57 empty)
unfolding bytes figures pages_with title names row empty columns page_line title_line names_line row_line blank_line page_lines second_page
    all_lines concatenated pages tabulate written written_in
one-row = refl

-- 64 rows: rows 0 to 57 on lines 3 to 60; a second page with the two top lines on lines 61 and 62, row 58 on line 63 and row 63 on line
-- 68; blank lines up to 120, and no more
two-pages : map (line_in (pages_with 64)) (1 ∷ 2 ∷ 3 ∷ 60 ∷ 61 ∷ 62 ∷ 63 ∷ 68 ∷ 69 ∷ 120 ∷ 121 ∷ [])
    ≡ title ∷ names ∷ row (bytes " 0") ∷ row (bytes "57") ∷ title ∷ names ∷ row (bytes "58") ∷ row (bytes "63") ∷ empty ∷ empty ∷ [] ∷ []
unfolding bytes figures pages_with line_in title names row empty columns page_line title_line names_line row_line blank_line page_lines
    second_page all_lines concatenated pages tabulate written written_in
two-pages = refl

-- 57 rows, 58 and 59: one page with a blank last line, one full page, and a second page for row 58 alone
page-ends : map (line_in (pages_with 57)) (59 ∷ 60 ∷ 61 ∷ []) ++ map (line_in (pages_with 58)) (60 ∷ 61 ∷ [])
    ++ map (line_in (pages_with 59)) (60 ∷ 61 ∷ 63 ∷ 64 ∷ 120 ∷ 121 ∷ [])
    ≡ row (bytes "56") ∷ empty ∷ [] ∷ row (bytes "57") ∷ [] ∷ row (bytes "57") ∷ title ∷ row (bytes "58") ∷ empty ∷ empty ∷ [] ∷ []
unfolding bytes figures pages_with line_in title names row empty columns page_line title_line names_line row_line blank_line page_lines
    second_page all_lines concatenated pages tabulate written written_in
page-ends = refl
