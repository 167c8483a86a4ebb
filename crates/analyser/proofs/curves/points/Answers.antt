-- `curves::points` meets its contract: what the sheet reads as decides.
use Rattle.analyser.proofs.Asked.{left-refused, left-accepted}
use Rattle.analyser.specs.Curves.{points_result}
use Rattle.points.specs.Answers.{points_for}
use Rattle.sheet.proofs.Accepting.{stands}
use Rattle.analyser.proofs.curves.points.Goals as goal

pub sheet_points-requires : goal.sheet_points-requires
sheet_points-requires c = stands _ _ c.in_ok-sheet.ensures

pub returns-in_err-sheet : goal.returns-in_err-sheet
unfolding points_result
returns-in_err-sheet c = left-refused _ (points_for) _ _ _ c.from_residual.ensures.1 c.in_err-sheet.ensures

pub returns : goal.returns
unfolding points_result
returns c = left-accepted _ (points_for) c.sheet_points.ensures c.in_ok-sheet.ensures
