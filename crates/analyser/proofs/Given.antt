-- A text that is given for what reading, joining or importing comes to is that of an accepted sheet.
use Rattle.std.specs.Prelude.{Result, Ok, Err}
use Rattle.model.specs.declared.Refusal.{Refusal}
use Prim.Native.Nat.{ℕ}
use mathlib.Core.Path.{◌≡◌, refl, sym, ap}
use mathlib.Core.List.{List}
use native.Mathlib.Omega.{arith}
use Rattle.model.specs.Sheets.{SheetValue}
use Rattle.sheet.specs.Accepting.{on_sheet}
use Rattle.sheet.specs.Reading.{Outcome, accepted, rejected}
use Rattle.sheet.specs.Writing.{sheet_text}

-- the text that a result gives; another for a refusal
text_in : Result (List ℕ) Refusal → List ℕ → List ℕ
text_in (Ok text) other = text
text_in (Err r) other = other

-- two texts that are given by one result are the same
pub given-same : (x y : List ℕ) → ◌≡◌ {A = Result (List ℕ) Refusal} (Ok x) (Ok y) → x ≡ y
unfolding text_in
given-same x y e = ap (λ r. text_in r x) e

-- what f gives for the sheet
pub given_by : (f : SheetValue → List ℕ) (o : Outcome) (text : List ℕ) → on_sheet o Err (λ u. Ok (f u)) ≡ Ok text
    → (u : SheetValue) × (o ≡ accepted u) × (text ≡ f u)
unfolding text_in
given_by f (accepted u) text e = (u, refl, sym (ap (λ r. text_in r text) e))
given_by f (rejected r) text e = absurd (let z : ◌≡◌ {A = ℕ} 0 1 = cc in omega arith)

pub given-accepted : (o : Outcome) (text : List ℕ) → on_sheet o Err (λ u. Ok (sheet_text u)) ≡ Ok text
    → (u : SheetValue) × (o ≡ accepted u) × (text ≡ sheet_text u)
given-accepted = given_by sheet_text
