-- `sheets::join_to` meets its contract: what the sheet reads as decides.
use Rattle.analyser.proofs.Asked.{left-refused, left-accepted}
use Rattle.analyser.specs.Sheets.{joint_result}
use Rattle.model.specs.Values.{value_of}
use Rattle.sheet.proofs.Accepting.{forms-stand}
use native.Mathlib.Omega.{arith}
use Rattle.analyser.proofs.sheets.join_to.Goals as goal

pub write_joint-requires : goal.write_joint-requires
write_joint-requires c = (c.requires, forms-stand 2 3 _ _ c.in_ok-sheet.ensures (omega arith))

pub returns-in_err-sheet : goal.returns-in_err-sheet
returns-in_err-sheet c = left-refused _ (λ w. joint_result (value_of c.args.first) w) _ _ _ c.from_residual.ensures.1 c.in_err-sheet.ensures

pub returns : goal.returns
returns c = left-accepted _ (λ w. joint_result (value_of c.args.first) w) c.write_joint.ensures c.in_ok-sheet.ensures
