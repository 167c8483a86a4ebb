-- The text of a sheet in the parts in which it is written, and the lengths of the parts.
use Prim.Native.Nat.{ℕ, ◌+◌}
use mathlib.Core.Path.{◌≡◌}
use mathlib.Core.Bool.{Bool, true, false}
use mathlib.Core.List.{List, [], ◌++◌, append-nil}
use borrow.Table.Steps.{cases}
use lib.Dec.{leb}
use lib.ListN.{length, length-append}
use Rattle.model.specs.Sheets.{HeadValue, SheetValue}
use Rattle.text.specs.Keys.{form_key, refs_key, ref_key}
use Rattle.text.specs.Texts.{number_text, lines_text}
use Rattle.sheet.specs.Order.{form_lines}
use Rattle.sheet.specs.Parts.{text_of}
use Rattle.sheet.specs.Touches.{Entries}
use Rattle.sheet.specs.Writing.{sheet_text}
use Rattle.sheet.proofs.PartTexts.{plain-text, steps-text, entries_text, entries_in, sheet-text}
use Rattle.write_sheet.specs.inner.Heads.{counted_text, head_text}
use Rattle.write_sheet.proofs.HeadParts.{heads}
use Rattle.write_sheet.specs.inner.Steps.{steps_text}
use Rattle.write_sheet.specs.inner.Parts.{form_text, run_text}

-- by the form: with a form line and steps, or without
module _ (form : ℕ) where
  pub form-later : leb 2 form ≡ true → form_text form ≡ number_text form_key form
  unfolding form_text
  form-later e = rw e

  pub form-first : leb 2 form ≡ false → form_text form ≡ []
  unfolding form_text
  form-first e = rw e

  pub run-later : (xs : List ℕ) (marks : List Bool) → leb 2 form ≡ true → run_text form xs marks ≡ steps_text xs marks
  unfolding run_text
  run-later xs marks e = rw e

  pub run-first : (xs : List ℕ) (marks : List Bool) → leb 2 form ≡ false → run_text form xs marks ≡ counted_text refs_key ref_key xs
  unfolding run_text
  run-first xs marks e = rw e

-- the form line
form-text : (form : ℕ) → text_of (form_lines form) ≡ form_text form
unfolding form_text lines_text
form-text form = cases (leb 2 form) (λ e. rw e (append-nil (number_text form_key form))) (λ e. rw e)

-- the entries
runs : (form : ℕ) (h : HeadValue) (e : Entries) → entries_text form h e ≡ run_text form e.entries e.marks
unfolding entries_text run_text steps_text
runs form h e =
    cases (leb 2 form) (λ f. rw f (steps-text (leb 4 form) (length h.sizes) e)) (λ f. rw f (plain-text (length h.sizes) e))

-- the whole
pub text-parts : (v : SheetValue)
    → form_text v.form ++ (head_text v.form v.head ++ run_text v.form v.entries v.marks) ≡ sheet_text v
text-parts v =
    rw (sheet-text v, form-text v.form, heads v.form v.head, runs v.form v.head (entries_in v))

-- and its length
pub parts-length : (v : SheetValue) → length (sheet_text v)
    ≡ length (form_text v.form) + (length (head_text v.form v.head) + length (run_text v.form v.entries v.marks))
parts-length v = rw (← text-parts v) (simp length-append)
