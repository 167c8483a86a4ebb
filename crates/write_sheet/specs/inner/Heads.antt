-- The lines in which the head of a sheet is written.
use Rattle.std.specs.Prelude.{ℕ, cond, List, [], ◌++◌, leb, length}
use Rattle.model.specs.Sheets.{HeadValue}
use Rattle.model.specs.declared.Kind.{Kind}
use Rattle.model.specs.declared.PriceRow.{PriceRow}
use Rattle.text.specs.Keys.{kind_key, a_key, segs_key, size_key, rows_key, warm_key, hold_key, kind_word}
use Rattle.text.specs.Texts.{line_text, number_text, lines_text}
use Rattle.sheet.specs.Values.{row_text}

-- a line for each number
abbrev pub numbers_text : List ℕ → List ℕ → List ℕ
numbers_text key xs = lines_text (number_text key) xs

-- a line for each row
abbrev pub rows_text : List PriceRow → List ℕ
rows_text qs = lines_text row_text qs

-- the line that counts the numbers, and the line of each
abbrev pub counted_text : List ℕ → List ℕ → List ℕ → List ℕ
counted_text count key xs = number_text count (length xs) ++ numbers_text key xs

-- the lines from kind= to the sizes
unfoldable pub segments_text : Kind → ℕ → List ℕ → List ℕ
segments_text kind a sizes = line_text kind_key (kind_word kind) ++ (number_text a_key a ++ counted_text segs_key size_key sizes)

-- the line that counts the rows, and the line of each
unfoldable pub priced_text : List PriceRow → List ℕ
priced_text rows = number_text rows_key (length rows) ++ rows_text rows

-- the line that counts the warm segments and the line of each, which a sheet has from form 3 on
unfoldable pub warm_text : ℕ → List ℕ → List ℕ
warm_text form holds = cond (leb 3 form) (counted_text warm_key hold_key holds) []

-- a head in a form
unfoldable pub head_text : ℕ → HeadValue → List ℕ
head_text form h = segments_text h.kind h.a h.sizes ++ (priced_text h.rows ++ warm_text form h.warm)
