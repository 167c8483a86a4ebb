-- `curves::lru_plain` meets its contract: what the sheet reads as decides.
use Rattle.analyser.proofs.Asked.{left-refused, left-accepted}
use Rattle.analyser.specs.Curves.{lru_plain_result}
use Rattle.replacement.specs.Answers.{plain_for}
use Rattle.sheet.proofs.Accepting.{stands}
use Rattle.analyser.proofs.curves.lru_plain.Goals as goal

pub sheet_curve_plain-requires : goal.sheet_curve_plain-requires
sheet_curve_plain-requires c = stands _ _ c.in_ok-sheet.ensures

pub returns-in_err-sheet : goal.returns-in_err-sheet
unfolding lru_plain_result
returns-in_err-sheet c = left-refused _ (plain_for) _ _ _ c.from_residual.ensures.1 c.in_err-sheet.ensures

pub returns : goal.returns
unfolding lru_plain_result
returns c = left-accepted _ (plain_for) c.sheet_curve_plain.ensures c.in_ok-sheet.ensures
