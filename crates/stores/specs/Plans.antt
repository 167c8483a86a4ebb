-- What is answered for the schedules of a row of a sheet: 7, then 11 by the place, or 8, 9, 10.
use Rattle.model.specs.declared.Refusal.{Refusal}
use Rattle.model.specs.declared.Price.{Price}
use Rattle.std.specs.Prelude.{ℕ, cond, List, length, ltb, Result, Ok, Err}
use Rattle.model.specs.Demand.{row_schedule}
use Rattle.model.specs.Schedules.{schedule_memory}
use Rattle.model.specs.Sheets.{SheetValue, trace_of}
use Rattle.model.specs.declared.Refusal.TheVariants.{NoSuchRow}
use Rattle.model.specs.Pricing.{schedule_verdict}
use Rattle.stores.specs.Rows.{row_mod_schedule, sheet_load, sheet_total}

-- the optimal schedule of row r of a sheet: 7 where there is no such row
unfoldable pub schedule_for : SheetValue → ℕ → Result (List ℕ) Refusal
schedule_for v r = cond (ltb r (length v.head.rows)) (Ok (row_schedule v r)) (Err NoSuchRow)

-- the schedule of the least total with stores counted (request F-13): 7 where there is no such row
unfoldable pub modified_for : SheetValue → ℕ → Result (List ℕ) Refusal
modified_for v r = cond (ltb r (length v.head.rows)) (Ok (row_mod_schedule v r)) (Err NoSuchRow)

-- what pricing a schedule p at row r answers: memory, load and total, the stores of the sheet's marks counted, or the refusal
unfoldable pub priced_at : SheetValue → ℕ → List ℕ → Result Price Refusal
priced_at v r p =
    elim (schedule_verdict (trace_of v) p) [
      | Ok _ ↦ Ok (record {
        memory = record { 0 = schedule_memory (trace_of v) p };
        load = record { 0 = sheet_load v p };
        total = sheet_total v r p;
      })
      | Err why ↦ Err why
    ]

-- the price of a schedule p at row r of a sheet: 7 where there is no such row, then 8, 9, 10
unfoldable pub price_for : SheetValue → ℕ → List ℕ → Result Price Refusal
price_for v r p = cond (ltb r (length v.head.rows)) (priced_at v r p) (Err NoSuchRow)
