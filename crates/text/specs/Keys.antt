-- The words of a sheet as bytes: each key with its "=", the two kinds, the line feed, "/", "@" and the letter w.
use Rattle.std.specs.Prelude.{ℕ, List, [], ◌∷◌}
use Rattle.model.specs.declared.Kind.{Kind}
use Rattle.model.specs.declared.Kind.TheVariants.{Time, Space}

abbrev pub line_feed : ℕ
line_feed = 10

abbrev pub slash : ℕ
slash = 47

abbrev pub at_sign : ℕ
at_sign = 64

-- w, of a touch that modifies (request F-13)
abbrev pub mark_letter : ℕ
mark_letter = 119

-- form=
abbrev pub form_key : List ℕ
form_key = 102 ∷ 111 ∷ 114 ∷ 109 ∷ 61 ∷ []

-- kind=
abbrev pub kind_key : List ℕ
kind_key = 107 ∷ 105 ∷ 110 ∷ 100 ∷ 61 ∷ []

-- a=
abbrev pub a_key : List ℕ
a_key = 97 ∷ 61 ∷ []

-- segs=
abbrev pub segs_key : List ℕ
segs_key = 115 ∷ 101 ∷ 103 ∷ 115 ∷ 61 ∷ []

-- size=
abbrev pub size_key : List ℕ
size_key = 115 ∷ 105 ∷ 122 ∷ 101 ∷ 61 ∷ []

-- rows=
abbrev pub rows_key : List ℕ
rows_key = 114 ∷ 111 ∷ 119 ∷ 115 ∷ 61 ∷ []

-- row=
abbrev pub row_key : List ℕ
row_key = 114 ∷ 111 ∷ 119 ∷ 61 ∷ []

-- warm=
abbrev pub warm_key : List ℕ
warm_key = 119 ∷ 97 ∷ 114 ∷ 109 ∷ 61 ∷ []

-- hold=
abbrev pub hold_key : List ℕ
hold_key = 104 ∷ 111 ∷ 108 ∷ 100 ∷ 61 ∷ []

-- steps=
abbrev pub steps_key : List ℕ
steps_key = 115 ∷ 116 ∷ 101 ∷ 112 ∷ 115 ∷ 61 ∷ []

-- refs=
abbrev pub refs_key : List ℕ
refs_key = 114 ∷ 101 ∷ 102 ∷ 115 ∷ 61 ∷ []

-- ref=
abbrev pub ref_key : List ℕ
ref_key = 114 ∷ 101 ∷ 102 ∷ 61 ∷ []

-- time, space
abbrev pub kind_word : Kind → List ℕ
kind_word Time = 116 ∷ 105 ∷ 109 ∷ 101 ∷ []
kind_word Space = 115 ∷ 112 ∷ 97 ∷ 99 ∷ 101 ∷ []
