-- The frames of a simulated memory, for the second engine alone: which one has a segment, and one brought to the front.
use Rattle.std.specs.Prelude.{ℕ, suc, cond, List, [], ◌∷◌, ◌++◌, eqb, get_or, take, drop}

-- which of the frames in use has segment x; how many there are where none has
unfoldable pub frame_in : ℕ → List ℕ → ℕ
frame_in x [] = 0
frame_in x (y ∷ ys) = cond (eqb y x) 0 (suc (frame_in x ys))

-- what frame p has at the front, and what the frames before it have one further
abbrev pub at_front : ℕ → List ℕ → List ℕ
at_front p l = get_or l p 0 ∷ (take p l ++ drop (suc p) l)
