-- `sheets::to_form_2` meets its contract: what the sheet reads as decides.
use Rattle.analyser.proofs.Asked.{left-refused, left-accepted}
use Rattle.analyser.specs.Sheets.{to_form_2_result}
use Rattle.sheet.specs.Forms.{to_form_2}
use Rattle.analyser.proofs.sheets.to_form_2.Goals as goal

pub returns-in_err-sheet : goal.returns-in_err-sheet
unfolding to_form_2_result
returns-in_err-sheet c = left-refused _ (to_form_2) _ _ _ c.from_residual.ensures.1 c.in_err-sheet.ensures

pub returns : goal.returns
unfolding to_form_2_result
returns c = left-accepted _ (to_form_2) c.to_form_2.ensures c.in_ok-sheet.ensures
