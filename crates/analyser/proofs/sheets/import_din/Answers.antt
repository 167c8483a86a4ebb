-- `sheets::import_din` meets its contract: what the sheet that lends its rows reads as decides.
use Rattle.analyser.proofs.Asked.{left-refused, left-accepted}
use Rattle.analyser.specs.Sheets.{import_result}
use Rattle.analyser.specs.Sheets.{imported_result}
use Rattle.model.specs.Values.{sheet_of, value_of}
use Rattle.model.specs.declared.Sheet.{Sheet}
use Rattle.sheet.proofs.Accepting.{sheet-is}
use mathlib.Core.Path.{ap}
use Rattle.analyser.proofs.sheets.import_din.Goals as goal

pub write_imported-requires : goal.write_imported-requires
unfolding sheet_of value_of
write_imported-requires c = ap (λ (x : Sheet). x.head) (sheet-is _ _ c.in_ok-sheet.ensures)

pub returns-in_err-sheet : goal.returns-in_err-sheet
unfolding import_result value_of
returns-in_err-sheet c = left-refused _ (λ v. imported_result c.args.trace.now c.args.k v.head.rows) _ _ _ c.from_residual.ensures.1 c.in_err-sheet.ensures

pub returns : goal.returns
unfolding import_result value_of
returns c = left-accepted _ (λ v. imported_result c.args.trace.now c.args.k v.head.rows) c.write_imported.ensures c.in_ok-sheet.ensures
