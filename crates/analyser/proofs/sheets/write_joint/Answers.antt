-- `sheets::write_joint` meets its contract: what joining comes to decides.
use Rattle.analyser.proofs.Asked.{left-refused, left-accepted}
use Rattle.joint.proofs.Joining.{accepted-within}
use Rattle.joint.specs.Joining.{join_of}
use Rattle.model.specs.Values.{value_of}
use Rattle.sheet.proofs.Accepting.{on-accepted}
use Rattle.sheet.specs.Writing.{sheet_text}
use Rattle.std.specs.Prelude.{Ok}
use lib.ListN.{length}
use mathlib.Core.List.{[]}
use mathlib.Core.Path.{ap}
use native.Mathlib.Omega.{arith}
use Rattle.analyser.proofs.sheets.write_joint.Goals as goal

pub returns-in_err-sheet : goal.returns-in_err-sheet
returns-in_err-sheet c = left-refused _ (λ u. Ok (sheet_text u)) _ _ _ c.from_residual.ensures.1 c.in_err-sheet.ensures

-- a joint sheet has room in a place for the longest of form 3
pub write_within-requires : goal.write_within-requires
write_within-requires c =
    let o = join_of (value_of c.args.first) (value_of c.args.second) in
    omega (
      arith,
      ap length (on-accepted o _ c.in_ok-sheet.ensures (λ _. []) sheet_text),
      accepted-within (value_of c.args.first) (value_of c.args.second) c.requires.0.valid c.requires.1.valid,
    )

pub returns : goal.returns
returns c = left-accepted _ (λ u. Ok (sheet_text u)) c.write_within.ensures c.in_ok-sheet.ensures
