-- What reading a sheet answers.
use Rattle.std.specs.Prelude.{Result, Ok, Err}
use Rattle.model.specs.declared.Refusal.{Refusal}
use Rattle.model.specs.declared.Sheet.{Sheet}
use Rattle.model.specs.Values.{sheet_of, empty_sheet}
use Rattle.sheet.specs.Reading.{Outcome, accepted, rejected}

-- what reading answers: the sheet with the value, or the refusal and the empty sheet
unfoldable pub answer_of : Outcome → Result Sheet Refusal
answer_of (accepted v) = Ok (sheet_of v)
answer_of (rejected r) = Err r
