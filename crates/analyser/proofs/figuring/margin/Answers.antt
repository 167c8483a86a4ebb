-- `figuring::margin` meets its contract: what the sheet reads as decides.
use Rattle.analyser.proofs.Asked.{asked-refused, asked-accepted}
use Rattle.analyser.specs.Figures.{margin_answer}
use Rattle.model.specs.Margins.{margin_for}
use Rattle.sheet.proofs.Accepting.{stands}
use Rattle.analyser.proofs.figuring.margin.Goals as goal

pub sheet_margin-requires : goal.sheet_margin-requires
sheet_margin-requires c = stands _ _ c.in_ok-sheet.ensures

pub returns-in_err-sheet : goal.returns-in_err-sheet
unfolding margin_answer
returns-in_err-sheet c = asked-refused _ (λ v. margin_for v c.args.row c.args.reference) _ _ c.from_residual.ensures.1 c.in_err-sheet.ensures

pub returns : goal.returns
unfolding margin_answer
returns c = asked-accepted _ (λ v. margin_for v c.args.row c.args.reference) _ _ c.sheet_margin.ensures c.in_ok-sheet.ensures
