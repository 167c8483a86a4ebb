-- `sheets::write_imported` meets its contract: what the trace comes to decides.
use Rattle.analyser.proofs.Asked.{left-refused, left-accepted}
use Rattle.sheet.specs.Writing.{sheet_text}
use Rattle.std.specs.Prelude.{Ok}
use Rattle.analyser.proofs.sheets.write_imported.Goals as goal

pub returns-in_err-sheet : goal.returns-in_err-sheet
returns-in_err-sheet c = left-refused _ (λ u. Ok (sheet_text u)) _ _ _ c.from_residual.ensures.1 c.in_err-sheet.ensures

pub returns : goal.returns
returns c = left-accepted _ (λ u. Ok (sheet_text u)) c.write.ensures c.in_ok-sheet.ensures
