-- What is answered for every operating point of a sheet: 11 by the place alone.
use Rattle.std.specs.Prelude.{ℕ, List, Result, Ok}
use Rattle.model.specs.Sheets.{SheetValue, trace_of}
use Rattle.model.specs.declared.Refusal.{Refusal}
use Rattle.points.specs.Points.{operating_points}

-- the points of a sheet, of each R, w, optmem and load
unfoldable pub points_for : SheetValue → Result (List ℕ) Refusal
points_for v = Ok (operating_points (trace_of v))
