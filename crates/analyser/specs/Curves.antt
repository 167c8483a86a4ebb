-- What the calls for the misses of least-recently-used replacement (requests F-9 and F-10), the windows (F-12) and the operating points
-- (F-11) have for a lent place, by what the bytes read as. The sheet's refusals are 1 to 6, 16 and 19.
use Rattle.model.specs.Refusals.{value_or_zero}
use Rattle.model.specs.declared.Refusal.{Refusal}
use Rattle.replacement.specs.declared.Curve.{Curve}
use Rattle.std.specs.Prelude.{ℕ, ◌*◌, ◌≤◌, ◌≡◌, List, Result, Err}
use Rattle.model.specs.Places.{answer_for, PlaceLeft}
use Rattle.model.specs.Sheets.{trace_of}
use Rattle.model.specs.Traces.{steps, refs_of}
use Rattle.sheet.specs.Accepting.{on_sheet}
use Rattle.sheet.specs.Reading.{read_sheet}
use Rattle.replacement.specs.Answers.{curve_for, plain_for, no_curve, curve_length, looked_for}
use Rattle.replacement.specs.Recency.{distinct}
use Rattle.points.specs.Answers.{points_for}
use Rattle.windows.specs.Answers.{windows_for}

-- the misses with 1, 2, .., segs frames of the sheet that the bytes stand for: the sheet's refusals, 26, 27, then 11 by the place
unfoldable pub lru_result : List ℕ → Result (List ℕ) Refusal
lru_result s = on_sheet (read_sheet s) Err curve_for

-- the entries of the recency list that are looked at for the list in this place: none where the call is refused
unfoldable pub lru_looked : List ℕ → List ℕ → ℕ
lru_looked s place = on_sheet (read_sheet s) (λ why. 0) (λ v. looked_for v (answer_for (curve_for v) place))

-- the most entries that may be looked at: refs × the distinct segments; none where the sheet is refused
unfoldable pub lru_most : List ℕ → ℕ
lru_most s = on_sheet (read_sheet s) (λ why. 0) (λ v. refs_of (trace_of v) * distinct (trace_of v) (steps (trace_of v)))

-- what the call by distances answers, and what the place is before and after it
pub record LruLeft (s place place' : List ℕ) (answer : Result Curve Refusal) : Type 0 where
  pub left : PlaceLeft (lru_result s) place place' (curve_length answer)
  pub looked_is : (value_or_zero no_curve answer).looked ≡ lru_looked s place
  pub bounded : (value_or_zero no_curve answer).looked ≤ lru_most s

-- the same misses, each number of frames simulated in turn
unfoldable pub lru_plain_result : List ℕ → Result (List ℕ) Refusal
lru_plain_result s = on_sheet (read_sheet s) Err plain_for

-- wsocc at every window of the sheet that the bytes stand for: the sheet's refusals, 28, 26, 27, then 11 by the place
unfoldable pub windows_result : List ℕ → Result (List ℕ) Refusal
windows_result s = on_sheet (read_sheet s) Err windows_for

-- every operating point of the sheet that the bytes stand for: the sheet's refusals, then 11 by the place
unfoldable pub points_result : List ℕ → Result (List ℕ) Refusal
points_result s = on_sheet (read_sheet s) Err points_for
