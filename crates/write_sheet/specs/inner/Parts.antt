-- The parts in which a sheet is written.
use Rattle.std.specs.Prelude.{ℕ, Bool, cond, List, [], leb}
use Rattle.text.specs.Keys.{form_key, refs_key, ref_key}
use Rattle.text.specs.Texts.{number_text}
use Rattle.write_sheet.specs.inner.Heads.{counted_text}
use Rattle.write_sheet.specs.inner.Steps.{steps_text}

-- the form line, which a sheet of form 2 on has first
unfoldable pub form_text : ℕ → List ℕ
form_text form = cond (leb 2 form) (number_text form_key form) []

-- the entries of a form
unfoldable pub run_text : ℕ → List ℕ → List Bool → List ℕ
run_text form entries marks = cond (leb 2 form) (steps_text entries marks) (counted_text refs_key ref_key entries)
