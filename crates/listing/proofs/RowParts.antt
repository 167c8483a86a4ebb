-- The rows of a listing in the parts in which they are written, and the lengths of the parts.
use Prim.Native.Nat.{ℕ, ◌+◌}
use mathlib.Core.Path.{◌≡◌, sym}
use mathlib.Core.Bool.{true, false}
use mathlib.Core.List.{List, [], ◌++◌, append-nil}
use lib.ListN.{length, length-append}
use lib.Dec.{leb}
use Rattle.model.specs.declared.RowFigures.{RowFigures}
use Rattle.text.specs.Texts.{number_text}
use Rattle.listing.specs.RowListing.{h_key, d_key, misses_key, volume_key, load_key, optmem_key, opttotal_key, optocc_key, wsmem_key}
use Rattle.listing.specs.RowListing.{wsocc_key}
use Rattle.listing.specs.RowListing.{mean_key, modtotal_key, row_listing, mod_listing, marked_text}

-- three texts one after another
pub three-texts : (a b c : List ℕ) → length (a ++ (b ++ c)) ≡ length a + (length b + length c)
three-texts a b c = simp length-append

-- how long the lines of a row are
pub row-length : (f : RowFigures) → length (row_listing f)
    ≡ length (number_text h_key f.h) + (length (number_text d_key f.d)
    + (length (number_text misses_key f.misses) + (length (number_text volume_key f.volume) + (length (number_text load_key f.load.0)
    + (length (number_text optmem_key f.optmem.0) + (length (number_text opttotal_key f.opttotal)
    + (length (number_text optocc_key f.optocc) + (length (number_text wsmem_key f.wsmem) + (length (number_text wsocc_key f.wsocc)
    + length (number_text mean_key f.mean))))))))))
unfolding row_listing
row-length f =
    eleven (number_text h_key f.h) (number_text d_key f.d) (number_text misses_key f.misses) (number_text volume_key f.volume)
    (number_text load_key f.load.0) (number_text optmem_key f.optmem.0) (number_text opttotal_key f.opttotal)
    (number_text optocc_key f.optocc) (number_text wsmem_key f.wsmem) (number_text wsocc_key f.wsocc) (number_text mean_key f.mean)
  where
    eleven : (a b c d e f g h i j k : List ℕ)
        → length (a ++ (b ++ (c ++ (d ++ (e ++ (f ++ (g ++ (h ++ (i ++ (j ++ k))))))))))
        ≡ length a + (length b + (length c + (length d + (length e + (length f + (length g + (length h + (length i + (length j
        + length k)))))))))
    eleven a b c d e f g h i j k = simp length-append

-- modtotal= for form 4 on, and nothing below
module _ (form m : ℕ) where
  pub modtotal-with : leb 4 form ≡ true → mod_listing (leb 4 form) m ≡ number_text modtotal_key m
  unfolding mod_listing
  modtotal-with e = rw e

  pub modtotal-without : leb 4 form ≡ false → mod_listing (leb 4 form) m ≡ []
  unfolding mod_listing
  modtotal-without e = rw e

-- a row with it
module _ (form : ℕ) (f : RowFigures) (m : ℕ) where
  pub marked-with : leb 4 form ≡ true → row_listing f ++ number_text modtotal_key m ≡ marked_text form f m
  unfolding marked_text
  marked-with e = rw (modtotal-with form m e)

  pub marked-without : leb 4 form ≡ false → row_listing f ≡ marked_text form f m
  unfolding marked_text
  marked-without e = rw (modtotal-without form m e) (sym (append-nil (row_listing f)))

  -- and its length
  pub marked-length : length (marked_text form f m) ≡ length (row_listing f) + length (mod_listing (leb 4 form) m)
  unfolding marked_text
  marked-length = length-append (row_listing f) (mod_listing (leb 4 form) m)
