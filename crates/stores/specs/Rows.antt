-- What request F-13 says of row r of a sheet: modtotal, the schedule that has it, and what a schedule costs with stores counted. A sheet
-- without marks has no stores.
use Rattle.std.specs.Prelude.{ℕ, List}
use Rattle.model.specs.Sheets.{SheetValue, trace_of, marks_of, row_at}
use Rattle.stores.specs.Modtotal.{modtotal, mod_schedule}
use Rattle.stores.specs.Stays.{marked_load, marked_total}

-- modtotal of row r
abbrev pub row_modtotal : SheetValue → ℕ → ℕ
row_modtotal v r = modtotal (trace_of v) (marks_of v.marks) (row_at v r).h (row_at v r).d

-- the schedule of that total
abbrev pub row_mod_schedule : SheetValue → ℕ → List ℕ
row_mod_schedule v r = mod_schedule (trace_of v) (marks_of v.marks) (row_at v r).h (row_at v r).d

-- the load of a schedule with stores counted, and its total at row r
abbrev pub sheet_load : SheetValue → List ℕ → ℕ
sheet_load v p = marked_load (trace_of v) (marks_of v.marks) p

abbrev pub sheet_total : SheetValue → ℕ → List ℕ → ℕ
sheet_total v r p = marked_total (trace_of v) (marks_of v.marks) (row_at v r).h (row_at v r).d p
