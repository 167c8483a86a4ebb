-- What a call answers by what reading comes to.
use Rattle.model.specs.Sheets.{SheetValue}
use Rattle.model.specs.declared.Refusal.{Refusal}
use Rattle.sheet.specs.Reading.{Outcome, accepted, rejected}

-- by what reading comes to: the answer for a refusal, or that for the sheet's value
abbrev pub on_sheet : {A : Type 0} → Outcome → (Refusal → A) → (SheetValue → A) → A
on_sheet (rejected r) refusal answer = refusal r
on_sheet (accepted v) refusal answer = answer v
