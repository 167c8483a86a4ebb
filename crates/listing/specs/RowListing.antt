-- The rows of the listing as text: one item a line, key=number and a line feed, in document 01's order, with modtotal= of request F-13;
-- and the parts in which they are written.
use Rattle.std.specs.Prelude.{ℕ, Bool, cond, List, [], ◌∷◌, ◌++◌, drop, get_or, leb}
use Rattle.model.specs.declared.RowFigures.{RowFigures}
use Rattle.text.specs.Texts.{number_text}

-- h=
abbrev pub h_key : List ℕ
h_key = 104 ∷ 61 ∷ []

-- d=
abbrev pub d_key : List ℕ
d_key = 100 ∷ 61 ∷ []

-- misses=
abbrev pub misses_key : List ℕ
misses_key = 109 ∷ 105 ∷ 115 ∷ 115 ∷ 101 ∷ 115 ∷ 61 ∷ []

-- volume=
abbrev pub volume_key : List ℕ
volume_key = 118 ∷ 111 ∷ 108 ∷ 117 ∷ 109 ∷ 101 ∷ 61 ∷ []

-- load=
abbrev pub load_key : List ℕ
load_key = 108 ∷ 111 ∷ 97 ∷ 100 ∷ 61 ∷ []

-- optmem=
abbrev pub optmem_key : List ℕ
optmem_key = 111 ∷ 112 ∷ 116 ∷ 109 ∷ 101 ∷ 109 ∷ 61 ∷ []

-- opttotal=
abbrev pub opttotal_key : List ℕ
opttotal_key = 111 ∷ 112 ∷ 116 ∷ 116 ∷ 111 ∷ 116 ∷ 97 ∷ 108 ∷ 61 ∷ []

-- optocc=
abbrev pub optocc_key : List ℕ
optocc_key = 111 ∷ 112 ∷ 116 ∷ 111 ∷ 99 ∷ 99 ∷ 61 ∷ []

-- wsmem=
abbrev pub wsmem_key : List ℕ
wsmem_key = 119 ∷ 115 ∷ 109 ∷ 101 ∷ 109 ∷ 61 ∷ []

-- wsocc=
abbrev pub wsocc_key : List ℕ
wsocc_key = 119 ∷ 115 ∷ 111 ∷ 99 ∷ 99 ∷ 61 ∷ []

-- mean=
abbrev pub mean_key : List ℕ
mean_key = 109 ∷ 101 ∷ 97 ∷ 110 ∷ 61 ∷ []

-- modtotal=
abbrev pub modtotal_key : List ℕ
modtotal_key = 109 ∷ 111 ∷ 100 ∷ 116 ∷ 111 ∷ 116 ∷ 97 ∷ 108 ∷ 61 ∷ []

-- the eleven lines of a row
unfoldable pub row_listing : RowFigures → List ℕ
row_listing f =
    number_text h_key f.h
    ++ (number_text d_key f.d
    ++ (number_text misses_key f.misses
    ++ (number_text volume_key f.volume
    ++ (number_text load_key f.load.0
    ++ (number_text optmem_key f.optmem.0
    ++ (number_text opttotal_key f.opttotal
    ++ (number_text optocc_key f.optocc
    ++ (number_text wsmem_key f.wsmem
    ++ (number_text wsocc_key f.wsocc
    ++ number_text mean_key f.mean)))))))))

-- modtotal=, for form 4 on
unfoldable pub mod_listing : Bool → ℕ → List ℕ
mod_listing marked modtotal = cond marked (number_text modtotal_key modtotal) []

-- the lines of every row, and after each mean, where the form has it, modtotal= of the row
unfoldable pub rows_listing : Bool → List RowFigures → List ℕ → List ℕ
rows_listing marked [] ms = []
rows_listing marked (f ∷ fs) ms = row_listing f ++ (mod_listing marked (get_or ms 0 0) ++ rows_listing marked fs (drop 1 ms))

-- ---- the parts in which they are written

-- the lines of a row, and for form 4 on modtotal=
unfoldable pub marked_text : ℕ → RowFigures → ℕ → List ℕ
marked_text form f modtotal = row_listing f ++ mod_listing (leb 4 form) modtotal
