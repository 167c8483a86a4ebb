-- Lines with a number each, from their keys and numbers.
use Rattle.std.specs.Borrow.{Bor}
use Rattle.std.specs.Prelude.{ℕ, List}
use Rattle.text.specs.Texts.{number_text, lines_text}

-- the line of each key and number
abbrev pub keyed_text : List (Bor (List ℕ) × ℕ) → List ℕ
keyed_text lines = lines_text (λ p. number_text p.0.now p.1) lines
