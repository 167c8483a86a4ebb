-- The listing in the parts in which it is written, and the lengths of the parts.
use Prim.Native.Nat.{ℕ, ◌+◌, ◌<◌}
use mathlib.Core.Path.{◌≡◌, ap, ◌∙◌}
use mathlib.Core.Bool.{true, false}
use mathlib.Core.List.{List, ◌++◌, append_assoc, append-nil}
use lib.ListN.{length, get_or, length-append}
use lib.Dec.{leb}
use Rattle.model.specs.declared.RowFigures.{RowFigures}
use Rattle.text.specs.Keys.{refs_key, steps_key, segs_key, rows_key}
use Rattle.text.specs.Texts.{number_text}
use Rattle.listing.specs.RowListing.{rows_listing}
use Rattle.listing.proofs.RowLines.{rows_same}
use Rattle.listing.proofs.RowParts.{three-texts}
use Rattle.listing.specs.Listing.{steps_listing, listing}
use Rattle.listing.specs.inner.Parts.{counts_text, head_text}

module _ (form refs steps : ℕ) where
  -- refs= and steps= for form 2 on, and refs= alone for form 1
  pub counts_with : leb 2 form ≡ true → counts_text form refs steps ≡ number_text refs_key refs ++ number_text steps_key steps
  unfolding counts_text steps_listing
  counts_with e = rw e

  pub counts-with-length : leb 2 form ≡ true
      → length (counts_text form refs steps) ≡ length (number_text refs_key refs) + length (number_text steps_key steps)
  counts-with-length e = ap length (counts_with e) ∙ length-append (number_text refs_key refs) (number_text steps_key steps)

  pub counts-without : leb 2 form ≡ false → counts_text form refs steps ≡ number_text refs_key refs
  unfolding counts_text steps_listing
  counts-without e = rw e (append-nil (number_text refs_key refs))

  -- and the length for any form
  pub counts-length : length (counts_text form refs steps) ≡ length (number_text refs_key refs) + length (steps_listing form steps)
  unfolding counts_text
  counts-length = length-append (number_text refs_key refs) (steps_listing form steps)

  module _ (segs : ℕ) where
    -- the head
    pub head-length : (rows : ℕ) → length (head_text form refs steps segs rows)
        ≡ length (counts_text form refs steps) + (length (number_text segs_key segs) + length (number_text rows_key rows))
    unfolding head_text
    head-length rows = three-texts (counts_text form refs steps) (number_text segs_key segs) (number_text rows_key rows)

    -- it reads the modtotals of its rows, and below form 4 none
    pub listing-same : (fs : List RowFigures) (ms ns : List ℕ)
        → (leb 4 form ≡ true → (i : ℕ) → i < length fs → get_or ms i 0 ≡ get_or ns i 0)
        → listing form refs steps segs fs ms ≡ listing form refs steps segs fs ns
    unfolding listing
    listing-same fs ms ns same = rw (rows_same (leb 4 form) fs ms ns same)

    module _ (fs : List RowFigures) (ms : List ℕ) where
      -- the listing
      pub listing-parts : head_text form refs steps segs (length fs) ++ rows_listing (leb 4 form) fs ms
          ≡ listing form refs steps segs fs ms
      unfolding listing head_text counts_text
      listing-parts =
          five (number_text refs_key refs) (steps_listing form steps) (number_text segs_key segs) (number_text rows_key (length fs))
          (rows_listing (leb 4 form) fs ms)
        where
          five : (a b c d e : List ℕ) → ((a ++ b) ++ (c ++ d)) ++ e ≡ a ++ (b ++ (c ++ (d ++ e)))
          five a b c d e = simp append_assoc

      -- and its length
      pub listing-length : length (listing form refs steps segs fs ms)
          ≡ length (head_text form refs steps segs (length fs)) + length (rows_listing (leb 4 form) fs ms)
      listing-length =
          rw (← listing-parts) (length-append (head_text form refs steps segs (length fs)) (rows_listing (leb 4 form) fs ms))
