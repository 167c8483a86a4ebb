-- What the exported calls return and leave in what they are lent.
use Rattle.model.specs.declared.Refusal.{Refusal}
use Rattle.model.specs.declared.Price.{Price}
use Rattle.tariff.specs.declared.Cents.{Cents}
use Rattle.std.specs.Prelude.{ℕ, ◌≡◌, List, [], ◌∷◌, Result, Ok, Err}
use Rattle.model.specs.Places.{answer_for, place_for}
use Rattle.model.specs.Refusals.{verdict_number}
use Rattle.sheet.specs.Reading.{read_sheet}
use Rattle.sheet.specs.Writing.{sheet_text}
use Rattle.sheet.specs.Accepting.{on_sheet}
use Rattle.row_records.specs.Listed.{row_records}
use Rattle.c_lists.specs.Figures.{figure_lists}

-- a lent value after a call: what the answer's value gives, or where the call is refused the old one
abbrev pub or_old : {A B : Type 0} → (A → B) → Result A Refusal → B → B
or_old new (Ok x) old = new x
or_old new (Err r) old = old

-- a number as it is
abbrev pub itself : {A : Type 0} → A → A
itself x = x

-- a bill as a number
abbrev pub in_cents : Cents → ℕ
in_cents cents = cents.0

-- a price as numbers: memory, load, total
abbrev pub price_list : Price → List ℕ
price_list p = p.memory.0 ∷ p.load.0 ∷ p.total ∷ []

-- the sheet that the bytes stand for, written again: the sheet's refusals, then 11 by the place
unfoldable pub rewrite_result : List ℕ → Result (List ℕ) Refusal
rewrite_result s = on_sheet (read_sheet s) Err (λ v. Ok (sheet_text v))

-- the figures of every row of the sheet that the bytes stand for: the sheet's refusals, then 11 by the place
unfoldable pub rows_result : List ℕ → Result (List ℕ) Refusal
rows_result s = on_sheet (read_sheet s) Err (λ v. Ok (figure_lists (row_records v)))

-- a call that writes a result into a lent place: what it returns, the place afterwards, and a lent number, which becomes the length
pub record PlaceCall (result : Result (List ℕ) Refusal) (place place' : List ℕ) (written written' returned : ℕ) : Type 0 where
  pub returned_is : returned ≡ verdict_number (answer_for result place)
  pub place_is : place' ≡ place_for result place
  pub written_is : written' ≡ or_old itself (answer_for result place) written
