-- `texts::page` meets its contract: what the sheet reads as decides.
use Rattle.analyser.proofs.Asked.{left-refused, left-accepted}
use Rattle.analyser.specs.Texts.{page_result}
use Rattle.page.specs.Page.{pages_of}
use Rattle.sheet.proofs.Accepting.{stands}
use Rattle.std.specs.Prelude.{Ok}
use Rattle.analyser.proofs.texts.page.Goals as goal

pub sheet_page-requires : goal.sheet_page-requires
sheet_page-requires c = stands _ _ c.in_ok-sheet.ensures

pub returns-in_err-sheet : goal.returns-in_err-sheet
unfolding page_result
returns-in_err-sheet c = left-refused _ (λ v. Ok (pages_of v)) _ _ _ c.from_residual.ensures.1 c.in_err-sheet.ensures

pub returns : goal.returns
unfolding page_result
returns c = left-accepted _ (λ v. Ok (pages_of v)) c.sheet_page.ensures c.in_ok-sheet.ensures
