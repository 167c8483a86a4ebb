-- `figuring::figures` meets its contract: what the sheet reads as decides.
use Rattle.analyser.proofs.Asked.{asked-refused, asked-accepted}
use Rattle.analyser.specs.Figures.{figures_answer}
use Rattle.model.specs.RowAnswers.{figures_of}
use Rattle.sheet.proofs.Accepting.{stands}
use Rattle.analyser.proofs.figuring.figures.Goals as goal

pub sheet_figures-requires : goal.sheet_figures-requires
sheet_figures-requires c = stands _ _ c.in_ok-sheet.ensures

pub returns-in_err-sheet : goal.returns-in_err-sheet
unfolding figures_answer
returns-in_err-sheet c = asked-refused _ (λ v. figures_of v c.args.row) _ _ c.from_residual.ensures.1 c.in_err-sheet.ensures

pub returns : goal.returns
unfolding figures_answer
returns c = asked-accepted _ (λ v. figures_of v c.args.row) _ _ c.sheet_figures.ensures c.in_ok-sheet.ensures
