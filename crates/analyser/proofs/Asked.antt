-- What a call answers that hands a refusal of reading on by `?`, and what it answers for the sheet that was read.
use Rattle.std.specs.Prelude.{Result, Ok, Err, IsErrAnd}
use Prim.Native.Nat.{ℕ}
use mathlib.Core.Path.{◌≡◌, sym, ap, ◌∙◌}
use mathlib.Core.List.{List}
use Rattle.model.specs.Places.{PlaceLeft}
use Rattle.model.specs.Sheets.{SheetValue}
use Rattle.model.specs.Values.{value_of}
use Rattle.model.specs.declared.Refusal.{Refusal}
use Rattle.model.specs.declared.Sheet.{Sheet}
use Rattle.sheet.specs.Accepting.{on_sheet}
use Rattle.sheet.specs.Answers.{answer_of}
use Rattle.sheet.specs.Reading.{Outcome}
use Rattle.sheet.proofs.Accepting.{on-refused, on-accepted, result-refused, result-accepted}

-- what a `?` hands on: the refusal
pub handed-on : {A E : Type 0} (r : Result A E) (e : E) → IsErrAnd r (λ y. y ≡ e) → r ≡ Err e
handed-on (Ok x) e h = absurd h
handed-on (Err y) e h = ap Err h

module _ (o : Outcome) where
  pub asked-refused : {A : Type 0} (g : SheetValue → Result A Refusal) (r : Result A Refusal) (e : Refusal) → IsErrAnd r (λ y. y ≡ e)
      → Err e ≡ answer_of o → r ≡ on_sheet o Err g
  asked-refused g r e h read = handed-on r e h ∙ sym (on-refused o e read Err g)

  pub asked-accepted : {A : Type 0} (g : SheetValue → Result A Refusal) (r : Result A Refusal) (s : Sheet) → r ≡ g (value_of s)
      → Ok s ≡ answer_of o → r ≡ on_sheet o Err g
  asked-accepted g r s h read = h ∙ sym (on-accepted o s read Err g)

  -- and with a lent place
  pub left-refused : (g : SheetValue → Result (List ℕ) Refusal) (place : List ℕ) (r : Result ℕ Refusal) (e : Refusal)
      → IsErrAnd r (λ y. y ≡ e) → Err e ≡ answer_of o → PlaceLeft (on_sheet o Err g) place place r
  left-refused g place r e h read = result-refused o place g (handed-on r e h) read

  pub left-accepted : (g : SheetValue → Result (List ℕ) Refusal) {s : Sheet} {place place' : List ℕ} {r : Result ℕ Refusal}
      → PlaceLeft (g (value_of s)) place place' r → Ok s ≡ answer_of o → PlaceLeft (on_sheet o Err g) place place' r
  left-accepted g left read = result-accepted o g left read
