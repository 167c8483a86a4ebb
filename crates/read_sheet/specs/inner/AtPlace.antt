-- The answer to what was read of a sheet.
use Rattle.std.specs.Prelude.{ℕ, ◌≡◌, Bool, cond, List, Result, Ok, Err}
use Rattle.text.specs.Keys.{steps_key, refs_key}
use Rattle.model.specs.Sheets.{most_steps}
use Rattle.model.specs.Values.{idles, blank_marks}
use Rattle.model.specs.declared.Refusal.{Refusal}
use Rattle.model.specs.declared.Sheet.{Sheet}
use Rattle.sheet.specs.Lines.{number_line}
use Rattle.scan.specs.inner.AtPlace.{counted_in}
use Rattle.read_sheet.specs.inner.HeadsAtPlace.{BlankHead}

-- the sheet, where it was read to the end of the bytes, or the refusal
abbrev pub answer_at : Result (Unit {0}) Refusal → Sheet → Result Sheet Refusal
answer_at (Ok done) sheet = Ok sheet
answer_at (Err why) sheet = Err why

-- how many entries the first line counts, from form 2 on as steps, in form 1 as references; 0 where it is refused
abbrev pub steps_counted : Bool → List ℕ → ℕ
steps_counted later s = counted_in (number_line (cond later steps_key refs_key) 0 most_steps s)

-- a sheet of which only the form is read
pub record BlankSheet (x : Sheet) : Type 0 where
  pub head_blank : BlankHead x.head
  pub idle_all : x.touches ≡ idles most_steps
  pub unmarked : x.marks ≡ blank_marks most_steps
