-- What a reader shows as it goes along a run of bytes, and the lines of a sheet as a reader is to show them.
use Rattle.std.specs.Prelude.{ℕ, zero, suc, List, [], ◌∷◌, map}
use Rattle.model.specs.Sheets.{SheetValue}
use Rattle.sheet.specs.Lines.{split_at}
use Rattle.sheet.specs.Order.{lines_of}
use Rattle.reader.specs.Parts.{equals, part_before, line_key, line_value, after_line}

-- a line as it is shown: its key and its value
abbrev pub Shown : Type 0
Shown = List ℕ × List ℕ

-- the first n lines of s
unfoldable pub lines_shown : ℕ → List ℕ → List Shown
lines_shown zero s = []
lines_shown (suc n) s = (line_key s, line_value s) ∷ lines_shown n (after_line s)

-- what is left of s after n lines
unfoldable pub left_after : ℕ → List ℕ → List ℕ
left_after zero s = s
left_after (suc n) s = left_after n (after_line s)

-- the line of a key that is written with its "=", and of a value
abbrev pub keyed : List ℕ → List ℕ → Shown
keyed key v = (part_before (split_at equals key), v)

-- the lines of a sheet
abbrev pub sheet_shown : SheetValue → List Shown
sheet_shown v = map (λ l. keyed l.0 l.1) (lines_of v)
