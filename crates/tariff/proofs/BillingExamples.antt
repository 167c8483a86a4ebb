-- Which number the bill of a row gets: 7, then 18.
use Prim.Native.Nat.{ℕ}
use mathlib.Core.Path.{◌≡◌, refl}
use mathlib.Core.List.{[], ◌∷◌}
use Rattle.model.specs.Refusals.{verdict_number}
use Rattle.model.specs.Sheets.{SheetValue}
use Rattle.model.specs.declared.Kind.TheVariants.{Time}
use Rattle.tariff.specs.Billing.{row_bill, bill_for, tariff_of}

-- a sheet of one row, 1/1, and no step
sheet : SheetValue
sheet =
    record {
      form = 1;
      head = record { kind = Time; a = 0; sizes = 1 ∷ []; rows = record { h = 1; d = 1 } ∷ []; warm = [] };
      entries = [];
      marks = [];
    }

-- the number at row r, by two rates and a minimum
number : ℕ → ℕ → ℕ → ℕ → ℕ
number r m l least = verdict_number (bill_for sheet r (tariff_of m l least))

-- the largest rates and minimum, and one more of each; a row that there is not, and that with a rate out of range: 7 before 18
numbers : number 0 9999 9999 99999
    ∷ number 0 10000 0 0
    ∷ number 0 0 10000 0
    ∷ number 0 0 0 100000
    ∷ number 1 0 0 0
    ∷ number 1 10000 0 0
    ∷ []
    ≡ 0 ∷ 18 ∷ 18 ∷ 18 ∷ 7 ∷ 7 ∷ []
unfolding number sheet bill_for row_bill
numbers = refl
