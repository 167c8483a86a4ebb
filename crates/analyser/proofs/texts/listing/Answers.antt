-- `texts::listing` meets its contract: what the sheet reads as decides.
use Rattle.analyser.proofs.Asked.{left-refused, left-accepted}
use Rattle.analyser.specs.Texts.{listing_result}
use Rattle.listing.specs.Listing.{listing_of}
use Rattle.sheet.proofs.Accepting.{stands}
use Rattle.std.specs.Prelude.{Ok}
use Rattle.analyser.proofs.texts.listing.Goals as goal

pub sheet_listing-requires : goal.sheet_listing-requires
sheet_listing-requires c = stands _ _ c.in_ok-sheet.ensures

pub returns-in_err-sheet : goal.returns-in_err-sheet
unfolding listing_result
returns-in_err-sheet c = left-refused _ (λ v. Ok (listing_of v)) _ _ _ c.from_residual.ensures.1 c.in_err-sheet.ensures

pub returns : goal.returns
unfolding listing_result
returns c = left-accepted _ (λ v. Ok (listing_of v)) c.sheet_listing.ensures c.in_ok-sheet.ensures
