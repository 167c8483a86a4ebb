-- What is printed has at most 13,158 bytes, whatever the bytes are, so that a place of that length is never too short.
use Prim.Native.Nat.{ℕ, ◌≤◌}
use mathlib.Core.Path.{◌≡◌, refl}
use mathlib.Core.Logic.{⊎_elim}
use mathlib.Core.List.{List}
use native.Mathlib.Omega.{arith}
use lib.ListN.{length}
use Rattle.model.specs.Sheets.{newest_form}
use Rattle.sheet.specs.Reading.{Outcome, accepted, rejected, read_sheet}
use Rattle.sheet.proofs.Accepted.{accepted-valid}
use Rattle.sheet.proofs.Refusals.{sheet-refusals}
use Rattle.listing.specs.Listing.{refused_text, most_listing, listing_of}
use Rattle.listing.proofs.ListingMost.{listing-most, refused-most}
use Rattle.sheet.specs.Accepting.{on_sheet}
use Rattle.analyser.specs.Texts.{printed_text}

module _ (s : List ℕ) where
  printed-on : (o : Outcome) → read_sheet s ≡ o → length (on_sheet o refused_text listing_of) ≤ most_listing
  printed-on (accepted v) e = listing-most v (accepted-valid 1 newest_form (omega arith) s v e)
  printed-on (rejected q) e =
      refused-most q
      (⊎_elim (λ w. omega (arith, w)) (⊎_elim (λ w. omega (arith, w)) (λ w. omega (arith, w))) (sheet-refusals 1 newest_form s q e))

  pub printed-most : length (printed_text s) ≤ most_listing
  unfolding printed_text
  printed-most = printed-on (read_sheet s) refl
