-- What request F-11 says of a valid sheet: its list has at most 2,048 entries, and each row's optmem and load are those of one point.
use Prim.Native.Nat.{ℕ, ◌≤◌, ◌<◌}
use mathlib.Core.Path.{◌≡◌}
use native.Mathlib.Omega.{arith}
use lib.ListN.{length}
use Rattle.model.specs.Sheets.{SheetValue, Valid, trace_of, row_at, row_optmem, row_load, most_steps}
use Rattle.points.specs.Points.{thresholds, point_memory, point_load}
use Rattle.points.specs.Curve.{FromThreshold, Curve}
use Rattle.points.proofs.Curve.{curve}

module _ (s : SheetValue) (valid : Valid s) where
  pub sheet-curve : Curve (trace_of s)
  sheet-curve = curve (trace_of s) valid.run.segs_within

  pub sheet-place : length (thresholds (trace_of s)) ≤ most_steps
  sheet-place = sheet-curve.place most_steps (omega arith) valid.run.steps_within

  -- the point of a row is that of the greatest threshold not above the row's
  pub row-point : (r : ℕ) → r < length s.head.rows
      → (k : ℕ)
      × FromThreshold (trace_of s) k (row_at s r).h (row_at s r).d
      × (row_optmem s r ≡ point_memory (trace_of s) k)
      × (row_load s r ≡ point_load (trace_of s) k)
  row-point r lt =
      let h = (row_at s r).h in
      let d = (row_at s r).d in
      let found = sheet-curve.found h d (valid.rows.some_d r lt) in
      (found.0, found.1, sheet-curve.memory found.0 h d found.1, sheet-curve.loads found.0 h d found.1)
