-- A sheet in another form, and what the converters have for a lent place (request F-3).
use Rattle.std.specs.Prelude.{ℕ, Bool, true, false, cond, List, [], ◌∷◌, eqb, Result, Ok, Err}
use Rattle.model.specs.Sheets.{SheetValue, idle}
use Rattle.model.specs.declared.Refusal.{Refusal}
use Rattle.model.specs.declared.Refusal.TheVariants.{IdleStep}
use Rattle.sheet.specs.Writing.{sheet_text}

-- the same head and entries in another form, 1 or 2: these have no marks
abbrev pub in_form : ℕ → SheetValue → SheetValue
in_form form v = record { form = form; head = v.head; entries = v.entries; marks = [] }

-- some entry is that of a step without a touch
unfoldable pub some_idle : List ℕ → Bool
some_idle [] = false
some_idle (x ∷ xs) = cond (eqb x idle) true (some_idle xs)

abbrev pub has_idle : SheetValue → Bool
has_idle v = some_idle v.entries

-- to form 2: its text
abbrev pub to_form_2 : SheetValue → Result (List ℕ) Refusal
to_form_2 v = Ok (sheet_text (in_form 2 v))

-- back to form 1: refusal 17 where an idle step exists, else its text
abbrev pub to_form_1 : SheetValue → Result (List ℕ) Refusal
to_form_1 v = cond (has_idle v) (Err IdleStep) (Ok (sheet_text (in_form 1 v)))
