-- What the calls for sheets in and out have for a lent place, by what the bytes read as: writing, the converters (request F-3), joining
-- (F-7) and the import of a trace (F-8). The sheet's refusals are 1 to 6, 16 and 19.
use Rattle.model.specs.declared.Refusal.{Refusal}
use Rattle.std.specs.Prelude.{ℕ, List, Result, Ok, Err}
use Rattle.model.specs.Sheets.{SheetValue}
use Rattle.model.specs.Values.{value_of}
use Rattle.model.specs.declared.PriceRow.{PriceRow}
use Rattle.model.specs.declared.Sheet.{Sheet}
use Rattle.sheet.specs.Accepting.{on_sheet}
use Rattle.sheet.specs.Forms.{to_form_2, to_form_1}
use Rattle.sheet.specs.Reading.{read_forms, read_sheet}
use Rattle.sheet.specs.Writing.{sheet_text}
use Rattle.din.specs.Import.{imported}
use Rattle.joint.specs.Joining.{join_of}

-- the bytes of a sheet, for a lent place
abbrev pub write_result : Sheet → Result (List ℕ) Refusal
write_result sheet = Ok (sheet_text (value_of sheet))

-- the sheet of form 1 that the bytes stand for, in form 2: the sheet's refusals, where any other form is 4, then 11 by the place (request
-- F-3)
unfoldable pub to_form_2_result : List ℕ → Result (List ℕ) Refusal
to_form_2_result s = on_sheet (read_forms 1 1 s) Err to_form_2

-- the sheet of form 2 that the bytes stand for, in form 1: the sheet's refusals, where any other form is 4, 17, then 11 by the place
unfoldable pub to_form_1_result : List ℕ → Result (List ℕ) Refusal
to_form_1_result s = on_sheet (read_forms 2 2 s) Err to_form_1

-- the joint sheet of two sheets: 20, 21, 22, then 11 by the place
abbrev pub joint_result : SheetValue → SheetValue → Result (List ℕ) Refusal
joint_result v w = on_sheet (join_of v w) Err (λ u. Ok (sheet_text u))

-- the same of a sheet and the one that the bytes stand for: its refusals, where form 1 is 4, come before
abbrev pub joined_to : SheetValue → List ℕ → Result (List ℕ) Refusal
joined_to v s = on_sheet (read_forms 2 3 s) Err (λ w. joint_result v w)

-- the joint sheet of the two that the bytes stand for: the first's refusals, then the second's, where form 1 is 4, 20, 21, 22, then 11 by
-- the place
unfoldable pub join_result : List ℕ → List ℕ → Result (List ℕ) Refusal
join_result s1 s2 = on_sheet (read_forms 2 3 s1) Err (λ v. joined_to v s2)

-- the sheet of a trace with the rows: 23, 24 and 25 line by line, then 11 by the place
abbrev pub imported_result : List ℕ → ℕ → List PriceRow → Result (List ℕ) Refusal
imported_result trace k rows = on_sheet (imported k trace rows) Err (λ u. Ok (sheet_text u))

-- the same with the rows of the sheet that the bytes stand for: its refusals come before
unfoldable pub import_result : List ℕ → ℕ → List ℕ → Result (List ℕ) Refusal
import_result trace k s = on_sheet (read_sheet s) Err (λ v. imported_result trace k v.head.rows)
