-- Lists of segments in an order: where one stands in it, the list without it, and what a step makes of it.
use Rattle.std.specs.Prelude.{ℕ, cond, List, [], ◌∷◌, eqb, ltb}
use Rattle.std.proofs.Math.Option.{Option, none, some}
use Rattle.model.specs.Traces.{Trace, segs, entry, later}

-- the place of x in the list, counted from 1; none where the list does not have it
unfoldable pub place_of : ℕ → List ℕ → Option ℕ
place_of x [] = none
place_of x (y ∷ ys) = cond (eqb y x) (some 1) (later (place_of x ys))

-- the list without x, which it has at most once
unfoldable pub without : ℕ → List ℕ → List ℕ
without x [] = []
without x (y ∷ ys) = cond (eqb y x) ys (y ∷ without x ys)

-- x first, then the others in their order
abbrev pub to_front : ℕ → List ℕ → List ℕ
to_front x l = x ∷ without x l

-- what the step at place t makes of a list, where a touch of x makes f x of it; a step that touches nothing leaves it
abbrev pub after_step : Trace → (ℕ → List ℕ → List ℕ) → ℕ → List ℕ → List ℕ
after_step T f t l = cond (ltb (entry T t) (segs T)) (f (entry T t) l) l
