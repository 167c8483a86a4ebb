-- The lines in which the entries of form 2 on are written.
use Rattle.std.specs.Prelude.{Bool, List, ℕ, ◌++◌, length}
use Rattle.text.specs.Keys.{steps_key, refs_key}
use Rattle.text.specs.Texts.{number_text}
use Rattle.sheet.specs.Touches.{Touch, touches_of, touches_text}

-- the touches of entries and of their marks
abbrev pub touches_with : List ℕ → List Bool → List Touch
touches_with entries marks = touches_of (record { entries = entries; marks = marks })

-- the entries of form 2 on: the line that counts the steps, the line that counts the touches, and the line of each touch
unfoldable pub steps_text : List ℕ → List Bool → List ℕ
steps_text entries marks =
    number_text steps_key (length entries)
    ++ (number_text refs_key (length (touches_with entries marks)) ++ touches_text (touches_with entries marks))
