-- The text of lines: each key, value and a line feed.
use Rattle.std.specs.Prelude.{ℕ, List, [], ◌∷◌, ◌++◌}
use Rattle.decimal.specs.Decimal.{written}
use Rattle.text.specs.Keys.{line_feed}

-- a line: the key, the value and a line feed
abbrev pub line_text : List ℕ → List ℕ → List ℕ
line_text key v = key ++ (v ++ (line_feed ∷ []))

-- a line with a number
abbrev pub number_text : List ℕ → ℕ → List ℕ
number_text key n = line_text key (written n)

-- a line for each element
unfoldable pub lines_text : {A : Type 0} → (A → List ℕ) → List A → List ℕ
lines_text text [] = []
lines_text text (x ∷ xs) = text x ++ lines_text text xs
