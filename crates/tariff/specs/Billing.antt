-- What is answered for the bill of a row: 7, 18.
use Rattle.tariff.specs.declared.Cents.{Cents}
use Rattle.std.specs.Prelude.{ℕ, cond, length, ltb, Result, Ok, Err}
use Rattle.model.specs.Sheets.{SheetValue, row_optmem, row_load}
use Rattle.model.specs.declared.Refusal.{Refusal}
use Rattle.model.specs.declared.Refusal.TheVariants.{NoSuchRow, TariffOutOfRange}
use Rattle.tariff.specs.Tariff.{tariff_in_range, bill_of}
use Rattle.tariff.specs.declared.Tariff.{Tariff}

-- the bill of row r of a sheet, from its optmem and its load: 18 where a rate or the minimum lies outside its range
unfoldable pub row_bill : SheetValue → ℕ → Tariff → Result Cents Refusal
row_bill v r t =
    cond (tariff_in_range t) (Ok (record { 0 = bill_of t (row_optmem v r) (row_load v r) }))
    (Err TariffOutOfRange)

-- 7 where there is no such row, then 18
unfoldable pub bill_for : SheetValue → ℕ → Tariff → Result Cents Refusal
bill_for v r t = cond (ltb r (length v.head.rows)) (row_bill v r t) (Err NoSuchRow)

-- the tariff of two rates and a minimum
abbrev pub tariff_of : ℕ → ℕ → ℕ → Tariff
tariff_of m l least = record { memory_rate = m; load_rate = l; minimum = least }
