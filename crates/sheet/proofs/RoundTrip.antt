-- Reading and writing undo each other: what is read is written as it was, and every valid value is read back from its text.
use Prim.Native.Nat.{ℕ, ◌≤◌, ◌<◌}
use mathlib.Core.Path.{◌≡◌, refl, sym, ap, ◌∙◌}
use mathlib.Core.Bool.{Bool, true, false}
use mathlib.Core.List.{List, [], ◌∷◌, ◌++◌, append-nil}
use native.Mathlib.Omega.{arith}
use borrow.Author.Tests.{le-ltb, lt-ltb, leb-false}
use lib.Dec.{leb}
use lib.ListN.{length, length-append}
use Rattle.model.specs.Sheets.{SheetValue, Valid, form_bytes, newest_form}
use Rattle.model.specs.declared.Refusal.TheVariants.{SheetTooLong}
use Rattle.sheet.specs.Lines.{read}
use Rattle.sheet.specs.Reading.{sheet_lines, named_form, accepted, rejected, read_forms, read_sheet}
use Rattle.sheet.specs.Writing.{sheet_text}
use Rattle.sheet.proofs.Accepted.{valid-readable, accepted-read, accepted-valid}
use Rattle.sheet.proofs.Lengths.{text-within, largest, largest-valid, largest-form, largest-length}
use Rattle.sheet.proofs.SheetLines.{sheet-reads, named-later, named-first}

-- an accepted sheet is the text of its value
pub read-then-written : (lo hi : ℕ) (s : List ℕ) (v : SheetValue) → read_forms lo hi s ≡ accepted v → sheet_text v ≡ s
read-then-written lo hi s v e = sym (((sheet-reads lo hi).back s v [] (accepted-read lo hi s v e).1).0 ∙ append-nil (sheet_text v))

-- the first line of a valid sheet's text names its form, whatever follows the text
named-form : (v : SheetValue) (rest : List ℕ) → Valid v → named_form (sheet_text v ++ rest) ≡ v.form
named-form v rest c = go (leb 2 v.form) refl
  where
    go : (b : Bool) → leb 2 v.form ≡ b → named_form (sheet_text v ++ rest) ≡ v.form
    go true e = named-later v rest e c.form_within
    go false e = named-first v rest e ∙ omega (arith, c.some_form, leb-false 2 v.form e)

-- no valid sheet whose form a call takes is refused: its text is read as its value
pub written-then-read : (lo hi : ℕ) (v : SheetValue) → lo ≤ v.form → v.form ≤ hi → Valid v → read_forms lo hi (sheet_text v) ≡ accepted v
unfolding read_forms
written-then-read lo hi v l h c =
    let e : sheet_lines lo hi (sheet_text v) ≡ read v [] =
    ap (sheet_lines lo hi) (sym (append-nil (sheet_text v))) ∙ (sheet-reads lo hi).forth v [] (valid-readable lo hi v l h c) in
    let n : named_form (sheet_text v) ≡ v.form = ap named_form (sym (append-nil (sheet_text v))) ∙ named-form v [] c in
    rw (n, le-ltb (form_bytes v.form) (length (sheet_text v)) (text-within v c), e)

-- what a call that takes some forms accepts, one that takes every form does, with the same value
pub every-form : (lo hi : ℕ) → hi ≤ newest_form → (s : List ℕ) (v : SheetValue) → read_forms lo hi s ≡ accepted v → read_sheet s
    ≡ accepted v
every-form lo hi new s v e =
    let c = accepted-valid lo hi new s v e in
    ap read_sheet (sym (read-then-written lo hi s v e)) ∙ written-then-read 1 newest_form v c.some_form c.form_within c

-- and back: what a call that takes every form accepts, one that takes its form does, with the same value
pub taken-form : (lo hi : ℕ) (s : List ℕ) (v : SheetValue) → read_sheet s ≡ accepted v → lo ≤ v.form → v.form ≤ hi
    → read_forms lo hi s ≡ accepted v
taken-form lo hi s v e l h =
    ap (read_forms lo hi) (sym (read-then-written 1 newest_form s v e))
    ∙ written-then-read lo hi v l h (accepted-valid 1 newest_form (omega arith) s v e)

-- ---- both sides of the byte limit

-- the largest sheet of each form is read
pub largest-read : (form : ℕ) → 1 ≤ form → form ≤ newest_form → read_sheet (sheet_text (largest form)) ≡ accepted (largest form)
largest-read form l h =
    let e = largest-form form in
    written-then-read 1 newest_form (largest form) (rw e l) (rw e h) (largest-valid form l h)

-- and with a byte more it is refused with 1
pub largest-left : (form : ℕ) → 1 ≤ form → form ≤ newest_form → (b : ℕ)
    → read_sheet (sheet_text (largest form) ++ (b ∷ [])) ≡ rejected SheetTooLong
unfolding read_forms
largest-left form l h b =
    let s = sheet_text (largest form) ++ (b ∷ []) in
    let e : named_form s ≡ form = named-form (largest form) (b ∷ []) (largest-valid form l h) ∙ largest-form form in
    let n : form_bytes form < length s = rw length-append (omega (arith, largest-length form l h)) in
    rw (e, lt-ltb (form_bytes form) (length s) n)
