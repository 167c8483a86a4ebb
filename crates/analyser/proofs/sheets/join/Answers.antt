-- `sheets::join` meets its contract: what the sheet reads as decides.
use Rattle.analyser.proofs.Asked.{left-refused, left-accepted}
use Rattle.analyser.specs.Sheets.{join_result}
use Rattle.analyser.specs.Sheets.{joined_to}
use Rattle.sheet.proofs.Accepting.{forms-stand}
use native.Mathlib.Omega.{arith}
use Rattle.analyser.proofs.sheets.join.Goals as goal

pub join_to-requires : goal.join_to-requires
join_to-requires c = forms-stand 2 3 _ _ c.in_ok-sheet.ensures (omega arith)

pub returns-in_err-sheet : goal.returns-in_err-sheet
unfolding join_result
returns-in_err-sheet c = left-refused _ (λ v. joined_to v c.args.second.now) _ _ _ c.from_residual.ensures.1 c.in_err-sheet.ensures

pub returns : goal.returns
unfolding join_result
returns c = left-accepted _ (λ v. joined_to v c.args.second.now) c.join_to.ensures c.in_ok-sheet.ensures
