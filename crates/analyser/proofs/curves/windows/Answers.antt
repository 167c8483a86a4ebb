-- `curves::windows` meets its contract: what the sheet reads as decides.
use Rattle.analyser.proofs.Asked.{left-refused, left-accepted}
use Rattle.analyser.specs.Curves.{windows_result}
use Rattle.sheet.proofs.Accepting.{stands}
use Rattle.windows.specs.Answers.{windows_for}
use Rattle.analyser.proofs.curves.windows.Goals as goal

pub sheet_windows-requires : goal.sheet_windows-requires
sheet_windows-requires c = stands _ _ c.in_ok-sheet.ensures

pub returns-in_err-sheet : goal.returns-in_err-sheet
unfolding windows_result
returns-in_err-sheet c = left-refused _ (windows_for) _ _ _ c.from_residual.ensures.1 c.in_err-sheet.ensures

pub returns : goal.returns
unfolding windows_result
returns c = left-accepted _ (windows_for) c.sheet_windows.ensures c.in_ok-sheet.ensures
