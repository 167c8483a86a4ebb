-- What holds of the operating points that are given for a run of bytes (request F-11).
use Rattle.model.specs.Pricing.{price_given}
use Rattle.model.specs.RowAnswers.{figures_given}
use Rattle.std.specs.Prelude.{ℕ, ◌<◌, ◌-◌, ◌*◌, ◌≤◌, ◌+◌, suc, ◌≡◌, List, length, Ok, IsOk}
use Rattle.model.specs.Places.{answer_for}
use Rattle.model.specs.Sheets.{SheetValue, trace_of, most_steps, row_at}
use Rattle.model.specs.Traces.{Trace}
use Rattle.points.specs.Curve.{FromThreshold, Curve}
use Rattle.points.specs.Points.{thresholds, point_memory, point_load, operating_points}
use Rattle.analyser.specs.Curves.{points_result}
use Rattle.analyser.specs.Figures.{figures_answer}
use Rattle.analyser.specs.Schedules.{pricing}

-- the point of row r: that of the greatest threshold not above the row's. Its memory and its load are those that the figures call reports
pub record RowPoint (s : List ℕ) (v : SheetValue) (r : ℕ) : Type 0 where
  pub point : ℕ
  pub from : FromThreshold (trace_of v) point (row_at v r).h (row_at v r).d
  pub reported_memory : (figures_given (figures_answer s r)).optmem.0 ≡ point_memory (trace_of v) point
  pub reported_load : (figures_given (figures_answer s r)).load.0 ≡ point_load (trace_of v) point

-- a memory and a load lie on or above the straight line that joins the points k and k + 1 of a run, by cross products
abbrev pub OnOrAbove : Trace → ℕ → ℕ → ℕ → Type 0
OnOrAbove T k memory load =
    (point_memory T (suc k) - point_memory T k) * point_load T k + (point_load T k - point_load T (suc k)) * point_memory T k
    ≤ (point_memory T (suc k) - point_memory T k) * load + (point_load T k - point_load T (suc k)) * memory

-- what holds of the points of the bytes s, which read as the sheet v
pub record PointsFromBytes (s : List ℕ) (v : SheetValue) : Type 0 where
  -- they are given, four numbers each
  pub given : points_result s ≡ Ok (operating_points (trace_of v))
  pub counted : length (operating_points (trace_of v)) ≡ 4 * length (thresholds (trace_of v))
  -- there are at most 2,048 of them, so a place for as many suffices
  pub few : length (thresholds (trace_of v)) ≤ most_steps
  pub fits : (place : List ℕ) → 4 * most_steps ≤ length place → IsOk (answer_for (points_result s) place)
  -- they are all there is, and no permitted schedule lies below a line through neighbours
  pub curve : Curve (trace_of v)
  -- at any row the memory and the load that the pricing call gives a schedule lie on or above each line; in form 4 stores add to the load
  pub priced_lines : (r : ℕ) (p : List ℕ) → IsOk (pricing s r p) → (k : ℕ) → suc k < length (thresholds (trace_of v))
      → OnOrAbove (trace_of v) k (price_given (pricing s r p)).memory.0 (price_given (pricing s r p)).load.0
  -- and each row has its point
  pub row : (r : ℕ) → r < length v.head.rows → RowPoint s v r
