-- The parts in which a listing is written.
use Rattle.std.specs.Prelude.{ℕ, List, ◌++◌, leb, length}
use Rattle.text.specs.Keys.{refs_key, segs_key, rows_key}
use Rattle.text.specs.Texts.{number_text}
use Rattle.listing.specs.Listing.{steps_listing, listing}
use Rattle.listing.specs.RowListing.{rows_listing}
use Rattle.listing.specs.declared.Listing.{Listing}

-- refs=, and for form 2 on steps=
unfoldable pub counts_text : ℕ → ℕ → ℕ → List ℕ
counts_text form refs steps = number_text refs_key refs ++ steps_listing form steps

-- and segs= and rows=
unfoldable pub head_text : ℕ → ℕ → ℕ → ℕ → ℕ → List ℕ
head_text form refs steps segs rows = counts_text form refs steps ++ (number_text segs_key segs ++ number_text rows_key rows)

-- of what a listing shows: the lines before the rows, the lines of the rows, and all
abbrev pub head_of : Listing → List ℕ
head_of l = head_text l.form l.refs l.steps l.segs (length l.figures.now)

abbrev pub rows_of : Listing → List ℕ
rows_of l = rows_listing (leb 4 l.form) l.figures.now l.modtotals.now

abbrev pub text_of : Listing → List ℕ
text_of l = listing l.form l.refs l.steps l.segs l.figures.now l.modtotals.now
