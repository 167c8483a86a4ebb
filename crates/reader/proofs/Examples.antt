-- What the definitions show of some lines, and where a reader stands after them.
use Prim.Native.Nat.{ℕ}
use mathlib.Core.Path.{◌≡◌, refl}
use mathlib.Core.List.{List, [], ◌∷◌, map}
use Rattle.text.proofs.Strings.{bytes}
use Rattle.sheet.specs.Lines.{split_at}
use Rattle.reader.specs.Along.{lines_shown, left_after}
use Rattle.reader.specs.Parts.{place_after}

-- two lines: both are shown, and nothing is left
two-lines : List ℕ
two-lines = bytes "kind=time\na=1\n"

two-shown : lines_shown 2 two-lines ≡ (bytes "kind", bytes "time") ∷ (bytes "a", bytes "1") ∷ []
unfolding bytes two-lines lines_shown split_at
two-shown = refl

two-left : left_after 2 two-lines ≡ []
unfolding bytes two-lines left_after split_at
two-left = refl

-- the place of what follows the line at place 0, at place 4 of the same line, and at place 10; at the end there is no line, and the place
-- stays there
places : map (place_after two-lines) (0 ∷ 4 ∷ 10 ∷ 14 ∷ []) ≡ 10 ∷ 10 ∷ 14 ∷ 14 ∷ []
unfolding bytes two-lines split_at
places = refl

-- where the line feed is missing, the place is the end
place-no-feed : place_after (bytes "kind=time\na=1") 10 ≡ 13
unfolding bytes split_at
place-no-feed = refl

-- the key ends at the first "="
later-equals : lines_shown 1 (bytes "a==1\n") ≡ (bytes "a", bytes "=1") ∷ []
unfolding bytes lines_shown split_at
later-equals = refl

-- a line without "=" shows neither, and the reader goes on behind it
no-equals : lines_shown 2 (bytes "a\nb=2\n") ≡ ([], []) ∷ (bytes "b", bytes "2") ∷ []
unfolding bytes lines_shown split_at
no-equals = refl

-- without its line feed it is no line
no-feed : lines_shown 1 (bytes "a=1") ≡ ([], []) ∷ []
unfolding bytes lines_shown split_at
no-feed = refl
