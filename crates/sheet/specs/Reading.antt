-- Which value a run of bytes has, and which refusal it gets: the first faulty line decides, top down; 1 comes before all lines and 6
-- after them.
use Rattle.std.specs.Prelude.{ℕ, cond, List, [], ◌∷◌, length, ltb}
use Rattle.model.specs.Sheets.{SheetValue, form_bytes, newest_form}
use Rattle.model.specs.declared.Refusal.{Refusal}
use Rattle.model.specs.declared.Refusal.TheVariants.{SheetTooLong, BytesAfterEnd}
use Rattle.text.specs.Keys.{form_key}
use Rattle.sheet.specs.Lines.{Parsed, read, refused, number_line}
use Rattle.sheet.specs.Order.{sheet_part}

-- the lines of a sheet in order, for a call that takes the forms lo to hi
abbrev pub sheet_lines : ℕ → ℕ → List ℕ → Parsed SheetValue
sheet_lines lo hi s = (sheet_part lo hi).reads s

-- the form that the first line names; 1 where it is no whole line with a known form from 2 on
abbrev pub form_in : Parsed ℕ → ℕ
form_in (read form rest) = form
form_in (refused r) = 1

unfoldable pub named_form : List ℕ → ℕ
named_form s = form_in (number_line form_key 2 newest_form s)

-- what reading a run of bytes comes to: the sheet's value, or the refusal
pub data Outcome : Type 0 where
  accepted : SheetValue → Outcome
  rejected : Refusal → Outcome

-- refusal 6 where bytes follow the last line
abbrev pub at_end : Parsed SheetValue → Outcome
at_end (read v []) = accepted v
at_end (read v (b ∷ rest)) = rejected BytesAfterEnd
at_end (refused r) = rejected r

-- reading a sheet for a call that takes the forms lo to hi: refusal 1, before all lines, where it is longer than a sheet of the form that
-- its first line names may be
unfoldable pub read_forms : ℕ → ℕ → List ℕ → Outcome
read_forms lo hi s = cond (ltb (form_bytes (named_form s)) (length s)) (rejected SheetTooLong) (at_end (sheet_lines lo hi s))

-- reading a sheet for a call that takes every form
abbrev pub read_sheet : List ℕ → Outcome
read_sheet s = read_forms 1 newest_form s
