-- `sheets::to_form_1` meets its contract: what the sheet reads as decides.
use Rattle.analyser.proofs.Asked.{left-refused, left-accepted}
use Rattle.analyser.specs.Sheets.{to_form_1_result}
use Rattle.sheet.proofs.Accepting.{forms-stand}
use Rattle.sheet.specs.Forms.{to_form_1}
use native.Mathlib.Omega.{arith}
use Rattle.analyser.proofs.sheets.to_form_1.Goals as goal

pub to_form_1-requires : goal.to_form_1-requires
to_form_1-requires c = forms-stand 2 2 _ _ c.in_ok-sheet.ensures (omega arith)

pub returns-in_err-sheet : goal.returns-in_err-sheet
unfolding to_form_1_result
returns-in_err-sheet c = left-refused _ (to_form_1) _ _ _ c.from_residual.ensures.1 c.in_err-sheet.ensures

pub returns : goal.returns
unfolding to_form_1_result
returns c = left-accepted _ (to_form_1) c.to_form_1.ensures c.in_ok-sheet.ensures
