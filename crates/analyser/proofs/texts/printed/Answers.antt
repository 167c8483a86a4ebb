-- `texts::printed` meets its contract: what the sheet reads as decides.
use Rattle.analyser.specs.Texts.{printed_text}
use Rattle.listing.specs.Listing.{listing_of, refused_text}
use Rattle.sheet.proofs.Accepting.{text-refused, on-accepted, stands}
use Rattle.analyser.proofs.texts.printed.Goals as goal

pub sheet_listing-requires : goal.sheet_listing-requires
sheet_listing-requires c = stands _ _ c.in-Ok.ensures

pub returns-in-Err : goal.returns-in-Err
unfolding printed_text
returns-in-Err c = text-refused _ refused_text listing_of c.write_refusal.ensures c.in-Err.ensures

pub returns-in-Ok : goal.returns-in-Ok
unfolding printed_text
returns-in-Ok c = rw (on-accepted _ _ c.in-Ok.ensures refused_text listing_of) c.sheet_listing.ensures
