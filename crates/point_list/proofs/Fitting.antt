-- A place for 2,048 entries, four numbers each, suffices for the operating points of every valid sheet.
use Rattle.std.specs.Prelude.{IsOk}
use Prim.Native.Nat.{ℕ, ◌*◌, ◌≤◌}
use mathlib.Core.List.{List}
use native.Mathlib.Omega.{arith}
use lib.ListN.{length}
use borrow.Author.Tests.{le-leb}
use Rattle.model.specs.Places.{place_answer, answer_for}
use Rattle.model.specs.Sheets.{SheetValue, Valid, trace_of, most_steps}
use Rattle.points.specs.Points.{thresholds, operating_points}
use Rattle.points.proofs.Sheets.{sheet-place}
use Rattle.point_list.proofs.Running.{numbers-length}
use Rattle.points.specs.Answers.{points_for}

pub points-fit : (v : SheetValue) → Valid v → (place : List ℕ) → 4 * most_steps ≤ length place
    → IsOk (answer_for (points_for v) place)
unfolding points_for place_answer operating_points
points-fit v valid place long =
    rw (le-leb (length (operating_points (trace_of v))) (length place)
    (omega (arith, numbers-length (trace_of v) (length (thresholds (trace_of v))), sheet-place v valid)))
