-- `figuring::size` meets its contract: what the sheet reads as decides.
use Rattle.analyser.proofs.Asked.{asked-refused, asked-accepted}
use Rattle.analyser.specs.Figures.{size_answer}
use Rattle.model.specs.Sizing.{sizing, sized_row}
use Rattle.sheet.proofs.Accepting.{stands}
use Rattle.analyser.proofs.figuring.size.Goals as goal

pub sheet_size-requires : goal.sheet_size-requires
sheet_size-requires c = stands _ _ c.in_ok-sheet.ensures

pub returns-in_err-sheet : goal.returns-in_err-sheet
unfolding size_answer
returns-in_err-sheet c = asked-refused _ (λ v. sizing (sized_row v c.args.ceiling)) _ _ c.from_residual.ensures.1 c.in_err-sheet.ensures

pub returns : goal.returns
unfolding size_answer
returns c = asked-accepted _ (λ v. sizing (sized_row v c.args.ceiling)) _ _ c.sheet_size.ensures c.in_ok-sheet.ensures
