-- The round trip of demand 2 by the calls: what reading a run of bytes s answers, and what writing that sheet answers and leaves; and that
-- the converters there and back restore the bytes (request F-3).
use Rattle.model.specs.Values.{empty_sheet}
use Rattle.model.specs.Refusals.{value_or_zero}
use Rattle.std.specs.Prelude.{ℕ, ◌<◌, ◌≤◌, ◌≡◌, List, ◌++◌, length, drop, Ok, Err, IsOk}
use Rattle.model.specs.Places.{answer_for, place_for}
use Rattle.model.specs.Sheets.{SheetValue, trace_of}
use Rattle.model.specs.Traces.{steps, refs_of}
use Rattle.model.specs.declared.Refusal.TheVariants.{IdleStep}
use Rattle.model.specs.declared.Sheet.{Sheet}
use Rattle.sheet.specs.Answers.{answer_of}
use Rattle.sheet.specs.Forms.{in_form}
use Rattle.sheet.specs.Reading.{read_forms, read_sheet, accepted}
use Rattle.sheet.specs.Writing.{sheet_text}
use Rattle.analyser.specs.Sheets.{write_result, to_form_1_result, to_form_2_result}

-- the sheet that the reading call hands back
abbrev pub sheet_read : List ℕ → Sheet
sheet_read s = value_or_zero empty_sheet (answer_of (read_sheet s))

pub record RoundTripOf (s : List ℕ) : Type 0 where
  -- the reading call accepts
  pub read_accepted : IsOk (answer_of (read_sheet s))
  -- the writing call, handed the sheet that was read, accepts every place that is long enough and tells the old length
  pub write_accepted : (place : List ℕ) → length s ≤ length place
      → answer_for (write_result (sheet_read s)) place ≡ Ok (length s)
  -- and leaves the old bytes there, then what stood beyond them
  pub same_bytes : (place : List ℕ) → length s ≤ length place → place_for (write_result (sheet_read s)) place ≡ s ++ drop (length s) place

-- what holds of the two calls on every run of bytes s
pub record ThereAndBack (s : List ℕ) : Type 0 where
  -- a text that the one gives for s is taken by the other, which gives s again
  pub to_2_and_back : (text : List ℕ) → to_form_2_result s ≡ Ok text → to_form_1_result text ≡ Ok s
  pub to_1_and_back : (text : List ℕ) → to_form_1_result s ≡ Ok text → to_form_2_result text ≡ Ok s
  -- every sheet of form 1 is given in form 2
  pub to_2_given : (v : SheetValue) → read_forms 1 1 s ≡ accepted v → to_form_2_result s ≡ Ok (sheet_text (in_form 2 v))
  -- a sheet of form 2 is given in form 1 where every step has a reference, and refused with 17 where there are fewer references
  pub to_1_given : (v : SheetValue) → read_forms 2 2 s ≡ accepted v → refs_of (trace_of v) ≡ steps (trace_of v)
      → to_form_1_result s ≡ Ok (sheet_text (in_form 1 v))
  pub to_1_refused : (v : SheetValue) → read_forms 2 2 s ≡ accepted v → refs_of (trace_of v) < steps (trace_of v)
      → to_form_1_result s ≡ Err IdleStep
