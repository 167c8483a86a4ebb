-- What the calls for figures, size, margin and bill answer, by what the bytes read as. The sheet's refusals are 1 to 6, 16 and 19.
use Rattle.model.specs.declared.Refusal.{Refusal}
use Rattle.model.specs.declared.RowFigures.{RowFigures}
use Rattle.tariff.specs.declared.Cents.{Cents}
use Rattle.std.specs.Prelude.{ℕ, List, Result, Err, ℤ}
use Rattle.model.specs.Margins.{margin_for}
use Rattle.model.specs.RowAnswers.{figures_of}
use Rattle.model.specs.Sizing.{sized_row, sizing}
use Rattle.sheet.specs.Accepting.{on_sheet}
use Rattle.sheet.specs.Reading.{read_sheet}
use Rattle.tariff.specs.Billing.{bill_for, tariff_of}

-- the figures of row r of the sheet that the bytes stand for: the sheet's refusals, 7
unfoldable pub figures_answer : List ℕ → ℕ → Result RowFigures Refusal
figures_answer s r = on_sheet (read_sheet s) Err (λ v. figures_of v r)

-- the row for a ceiling of the sheet that the bytes stand for: the sheet's refusals, 12
unfoldable pub size_answer : List ℕ → ℕ → Result ℕ Refusal
size_answer s ceiling = on_sheet (read_sheet s) Err (λ v. sizing (sized_row v ceiling))

-- the margin of the n-th reference at row r of the sheet that the bytes stand for: the sheet's refusals, 7, 14, 15
unfoldable pub margin_answer : List ℕ → ℕ → ℕ → Result ℤ Refusal
margin_answer s r n = on_sheet (read_sheet s) Err (λ v. margin_for v r n)

-- the bill of row r of the sheet that the bytes stand for: the sheet's refusals, 7, 18
unfoldable pub bill_answer : List ℕ → ℕ → ℕ → ℕ → ℕ → Result Cents Refusal
bill_answer s r m l least = on_sheet (read_sheet s) Err (λ v. bill_for v r (tariff_of m l least))
