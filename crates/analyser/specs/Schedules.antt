-- What the schedule calls have for a lent place, and what pricing answers, by what the bytes read as. The sheet's refusals are 1 to 6, 16
-- and 19.
use Rattle.model.specs.declared.Refusal.{Refusal}
use Rattle.model.specs.declared.Price.{Price}
use Rattle.std.specs.Prelude.{ℕ, List, Result, Ok, Err}
use Rattle.sheet.specs.Accepting.{on_sheet}
use Rattle.sheet.specs.Reading.{read_forms, read_sheet}
use Rattle.stores.specs.Plans.{schedule_for, price_for, modified_for}

-- the optimal schedule of row r of the sheet that the bytes stand for: the sheet's refusals, where form 4 is 4 (request F-13), 7, then 11
-- by the place
unfoldable pub schedule_result : List ℕ → ℕ → Result (List ℕ) Refusal
schedule_result s r = on_sheet (read_forms 1 3 s) Err (λ v. schedule_for v r)

-- the schedule of the least total with stores counted of row r of the sheet of form 4 that the bytes stand for: the sheet's refusals, where
-- any other form is 4, 7, then 11 by the place (request F-13)
unfoldable pub modified_result : List ℕ → ℕ → Result (List ℕ) Refusal
modified_result s r = on_sheet (read_forms 4 4 s) Err (λ v. modified_for v r)

-- the price of a schedule p at row r of the sheet that the bytes stand for, in form 4 with stores counted: the sheet's refusals, 7, 8, 9,
-- 10
unfoldable pub pricing : List ℕ → ℕ → List ℕ → Result Price Refusal
pricing s r p = on_sheet (read_sheet s) Err (λ v. price_for v r p)

-- the answer of pricing that gives memory, load and total
abbrev pub price_of : ℕ → ℕ → ℕ → Result Price Refusal
price_of memory load total = Ok (record { memory = record { 0 = memory }; load = record { 0 = load }; total = total })
