-- Demand 3 of document 01 as one statement on a sheet's value: the optimum that is reported of a row is the least total of a permitted
-- schedule, the row's load the least load among those of that total, and the schedule that is written has both.
use Rattle.std.specs.Prelude.{ℕ, ◌≤◌, ◌≡◌, List}
use Rattle.model.specs.Figures.{opttotal}
use Rattle.model.specs.Schedules.{Permitted, schedule_memory, schedule_load, schedule_total, optimal_schedule}
use Rattle.model.specs.Sheets.{SheetValue, trace_of, row_at, row_optmem, row_load}

-- opttotal of row r of a sheet
abbrev pub row_opttotal : SheetValue → ℕ → ℕ
row_opttotal s r = opttotal (trace_of s) (row_at s r).h (row_at s r).d

-- the total of a schedule at row r of a sheet
abbrev pub row_total : SheetValue → ℕ → List ℕ → ℕ
row_total s r p = schedule_total (trace_of s) (row_at s r).h (row_at s r).d p

-- the optimal schedule of row r of a sheet
abbrev pub row_schedule : SheetValue → ℕ → List ℕ
row_schedule s r = optimal_schedule (trace_of s) (row_at s r).h (row_at s r).d

-- what demand 3 says of row r of a sheet
pub record Demand3 (s : SheetValue) (r : ℕ) : Type 0 where
  -- no permitted schedule has a total below opttotal
  pub lower : (p : List ℕ) → Permitted (trace_of s) p → row_opttotal s r ≤ row_total s r p
  -- no permitted schedule of the total opttotal has a load below the row's
  pub least : (p : List ℕ) → Permitted (trace_of s) p → row_total s r p ≡ row_opttotal s r → row_load s r ≤ schedule_load (trace_of s) p
  -- the optimal schedule is permitted
  pub permitted : Permitted (trace_of s) (row_schedule s r)
  -- its memory is optmem
  pub memory : schedule_memory (trace_of s) (row_schedule s r) ≡ row_optmem s r
  -- its load is the row's
  pub load : schedule_load (trace_of s) (row_schedule s r) ≡ row_load s r
  -- its total is opttotal
  pub total : row_total s r (row_schedule s r) ≡ row_opttotal s r
