-- A text put into a lent place from an index on, and how long a text is.
use Rattle.std.specs.Prelude.{ℕ, ◌+◌, ◌≤◌, ◌≡◌, List, ◌++◌, length, take, drop}

-- the place with the text from the index at on: what stood before it and what stood beyond it stay
unfoldable pub put_at : ℕ → List ℕ → List ℕ → List ℕ
put_at at text place = take at place ++ (text ++ drop (at + length text) place)

-- the text was put into the place from the index at on: it fits, where it ends, and what the place is afterwards
pub record Put (text : List ℕ) (at : ℕ) (place : List ℕ) (end : ℕ) (after : List ℕ) : Type 0 where
  pub fits : at + length text ≤ length place
  pub ends : end ≡ at + length text
  pub holds : after ≡ put_at at text place

-- n is the length of the text, and at most so many bytes
pub record LengthOf (text : List ℕ) (most n : ℕ) : Type 0 where
  pub is_length : n ≡ length text
  pub at_most : n ≤ most
