-- The listing as text: one item a line, key=number and a line feed, in document 01's order, with steps= of request F-3 and modtotal= of
-- request F-13.
use Rattle.std.specs.Prelude.{ℕ, cond, List, [], ◌∷◌, ◌++◌, length, leb}
use Rattle.model.specs.Refusals.{number_of}
use Rattle.model.specs.Sheets.{SheetValue, trace_of}
use Rattle.model.specs.Traces.{refs_of}
use Rattle.model.specs.declared.Refusal.{Refusal}
use Rattle.model.specs.declared.RowFigures.{RowFigures}
use Rattle.text.specs.Keys.{refs_key, steps_key, segs_key, rows_key}
use Rattle.text.specs.Texts.{number_text}
use Rattle.model.specs.Sums.{tabulate}
use Rattle.model.specs.RowAnswers.{figures_at}
use Rattle.stores.specs.Rows.{row_modtotal}
use Rattle.listing.specs.RowListing.{rows_listing}

-- refused=
abbrev pub refused_key : List ℕ
refused_key = 114 ∷ 101 ∷ 102 ∷ 117 ∷ 115 ∷ 101 ∷ 100 ∷ 61 ∷ []

-- steps=, for form 2 on
unfoldable pub steps_listing : ℕ → ℕ → List ℕ
steps_listing form steps = cond (leb 2 form) (number_text steps_key steps) []

-- the listing: refs=, for form 2 on steps= after it, segs=, rows=, then the lines of every row, for form 4 with its modtotal
unfoldable pub listing : ℕ → ℕ → ℕ → ℕ → List RowFigures → List ℕ → List ℕ
listing form refs steps segs fs ms =
    number_text refs_key refs
    ++ (steps_listing form steps ++ (number_text segs_key segs ++ (number_text rows_key (length fs) ++ rows_listing (leb 4 form) fs ms)))

-- the listing of a sheet: refs= is the number of its references, steps= that of its steps
unfoldable pub listing_of : SheetValue → List ℕ
listing_of v =
    listing v.form (refs_of (trace_of v)) (length v.entries) (length v.head.sizes) (tabulate (length v.head.rows) (figures_at v))
    (tabulate (length v.head.rows) (row_modtotal v))

-- no listing of an accepted sheet has more bytes: 64 rows, each figure with as many digits as it can have; below form 4 none has modtotal=
abbrev pub most_listing : ℕ
most_listing = 13158

abbrev pub older_listing : ℕ
older_listing = 11558

abbrev pub listing_bytes : ℕ → ℕ
listing_bytes form = cond (leb 4 form) most_listing older_listing

-- what is printed for a refusal
unfoldable pub refused_text : Refusal → List ℕ
refused_text r = number_text refused_key (number_of r)
