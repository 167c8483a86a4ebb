-- The page for the binder: request F-2. 60 lines of exactly 72 characters and a line feed.
use Rattle.std.specs.Prelude.{ℕ, ◌+◌, ◌-◌, ◌≤◌, ◌<◌, List, [], ◌∷◌, ◌++◌, map, cond, length, get_or, take, drop, replicate, ltb, leb}
use Rattle.model.specs.Rows.{zero_figures}
use Rattle.model.specs.Sheets.{SheetValue}
use Rattle.model.specs.declared.Kind.{Kind}
use Rattle.model.specs.declared.RowFigures.{RowFigures}
use Rattle.decimal.specs.Decimal.{written}
use Rattle.text.specs.Keys.{line_feed, kind_key, kind_word, a_key}
use Rattle.model.specs.Sums.{tabulate}
use Rattle.model.specs.RowAnswers.{figures_at}

-- how many characters a line has, how many lines a page has, and how many of them are for rows, below the two top lines
abbrev pub line_width : ℕ
line_width = 72

abbrev pub page_height : ℕ
page_height = 60

abbrev pub rows_on_page : ℕ
rows_on_page = 58

-- ---- a line

-- a blank, and n of them
abbrev pub blank : ℕ
blank = 32

abbrev pub blanks : ℕ → List ℕ
blanks n = replicate n blank

-- a text right-aligned in a column of so many characters. A longer text is not cut: it would make its line longer. No field of an accepted
-- sheet is longer (`every-field-fits`)
abbrev pub field : ℕ → List ℕ → List ℕ
field width text = blanks (width - length text) ++ text

-- two blanks between, and a field
abbrev pub spaced : ℕ → List ℕ → List ℕ
spaced width text = blanks 2 ++ field width text

-- six fields in columns of 7, 7, 8, 12, 12 and 12
unfoldable pub columns : List ℕ → List ℕ → List ℕ → List ℕ → List ℕ → List ℕ → List ℕ
columns h d misses volume load mean =
    field 7 h ++ (spaced 7 d ++ (spaced 8 misses ++ (spaced 12 volume ++ (spaced 12 load ++ spaced 12 mean))))

-- blanks fill a line to 72; then the line feed
unfoldable pub page_line : List ℕ → List ℕ
page_line text = text ++ (blanks (line_width - length text) ++ (line_feed ∷ []))

-- ---- the lines of a page

-- line 1: kind=space a=1
unfoldable pub title_line : Kind → ℕ → List ℕ
title_line kind a = page_line (kind_key ++ (kind_word kind ++ (blank ∷ (a_key ++ written a))))

-- h, d, misses, volume, load, mean
abbrev pub h_name : List ℕ
h_name = 104 ∷ []

abbrev pub d_name : List ℕ
d_name = 100 ∷ []

abbrev pub misses_name : List ℕ
misses_name = 109 ∷ 105 ∷ 115 ∷ 115 ∷ 101 ∷ 115 ∷ []

abbrev pub volume_name : List ℕ
volume_name = 118 ∷ 111 ∷ 108 ∷ 117 ∷ 109 ∷ 101 ∷ []

abbrev pub load_name : List ℕ
load_name = 108 ∷ 111 ∷ 97 ∷ 100 ∷ []

abbrev pub mean_name : List ℕ
mean_name = 109 ∷ 101 ∷ 97 ∷ 110 ∷ []

-- line 2: the names
unfoldable pub names_line : List ℕ
names_line = page_line (columns h_name d_name misses_name volume_name load_name mean_name)

-- the line of a row
unfoldable pub row_line : RowFigures → List ℕ
row_line f =
    page_line
    (columns (written f.h) (written f.d) (written f.misses) (written f.volume) (written f.load.0) (written f.mean))

-- a line of blanks
unfoldable pub blank_line : List ℕ
blank_line = page_line []

-- a page: the two top lines, one line per row, and blank lines to 60
unfoldable pub page_lines : Kind → ℕ → List RowFigures → List (List ℕ)
page_lines kind a fs = title_line kind a ∷ names_line ∷ (map row_line fs ++ replicate (rows_on_page - length fs) blank_line)

-- the page of rows 58 to 63: none where there are no such rows
unfoldable pub second_page : Kind → ℕ → List RowFigures → List (List ℕ)
second_page kind a [] = []
second_page kind a (f ∷ fs) = page_lines kind a (f ∷ fs)

-- all lines: rows 0 to 57 on the first page, the others on a second page with its own two top lines
unfoldable pub all_lines : Kind → ℕ → List RowFigures → List (List ℕ)
all_lines kind a fs = page_lines kind a (take rows_on_page fs) ++ second_page kind a (drop rows_on_page fs)

-- ---- the text

-- lines one after another
unfoldable pub concatenated : List (List ℕ) → List ℕ
concatenated [] = []
concatenated (l ∷ ls) = l ++ concatenated ls

-- the page or the two pages of these rows
unfoldable pub pages : Kind → ℕ → List RowFigures → List ℕ
pages kind a fs = concatenated (all_lines kind a fs)

-- the figures of a sheet's rows are those that the listing prints
unfoldable pub pages_of : SheetValue → List ℕ
pages_of v = pages v.head.kind v.head.a (tabulate (length v.head.rows) (figures_at v))

-- the line on which row r stands, counted from 0 over both pages
abbrev pub line_of_row : ℕ → ℕ
line_of_row r = cond (ltb r rows_on_page) (2 + r) (page_height + (2 + (r - rows_on_page)))

-- how many bytes there are for so many rows: one page or two
abbrev pub pages_length : ℕ → ℕ
pages_length rows = cond (leb rows rows_on_page) 4380 8760

-- ---- every field fits

-- the figures of a row fit their columns
pub record Fits (f : RowFigures) : Type 0 where
  pub h_fits : length (written f.h) ≤ 7
  pub d_fits : length (written f.d) ≤ 7
  pub misses_fits : length (written f.misses) ≤ 8
  pub volume_fits : length (written f.volume) ≤ 12
  pub load_fits : length (written f.load.0) ≤ 12
  pub mean_fits : length (written f.mean) ≤ 12

-- those of each row do
abbrev pub EachFits : List RowFigures → Type 0
EachFits fs = (r : ℕ) → r < length fs → Fits (get_or fs r zero_figures)

-- the largest figures: the largest prices; a miss in every step, of the largest size and at the largest weight; and every segment, of the
-- largest size, in memory in every step
abbrev pub largest_figures : RowFigures
largest_figures =
    record {
      h = 65535;
      d = 65535;
      misses = 2048;
      volume = 8386560;
      load = record { 0 = 2138574848 };
      optmem = record { 0 = 2146959360 };
      opttotal = 280852484321280;
      optocc = 2146959360;
      wsmem = 140700981657600;
      wsocc = 140700981657600;
      mean = 1048320000;
    }

-- no figure of f exceeds that of g
pub record NoneAbove (f g : RowFigures) : Type 0 where
  pub h_within : f.h ≤ g.h
  pub d_within : f.d ≤ g.d
  pub misses_within : f.misses ≤ g.misses
  pub volume_within : f.volume ≤ g.volume
  pub load_within : f.load.0 ≤ g.load.0
  pub optmem_within : f.optmem.0 ≤ g.optmem.0
  pub opttotal_within : f.opttotal ≤ g.opttotal
  pub optocc_within : f.optocc ≤ g.optocc
  pub wsmem_within : f.wsmem ≤ g.wsmem
  pub wsocc_within : f.wsocc ≤ g.wsocc
  pub mean_within : f.mean ≤ g.mean
