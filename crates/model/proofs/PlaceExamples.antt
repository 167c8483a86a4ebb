-- A result of two numbers in lent places of several lengths, and a refusal: what is answered, and what the place is afterwards.
use Rattle.std.specs.Prelude.{Result, Ok, Err}
use Rattle.model.specs.declared.Refusal.{Refusal}
use Prim.Native.Nat.{ℕ}
use mathlib.Core.Path.{◌≡◌, refl}
use mathlib.Core.List.{List, [], ◌∷◌, ◌++◌}
use Rattle.model.specs.Places.{answer_for, place_for, placed, place_answer}
use Rattle.model.specs.Refusals.{verdict_number, value_or_zero}
use Rattle.model.specs.declared.Refusal.TheVariants.{NoSuchRow}

-- the number, the length and the place
left : Result (List ℕ) Refusal → List ℕ → List ℕ
left result place = verdict_number (answer_for result place) ∷ value_or_zero 0 (answer_for result place) ∷ place_for result place

-- a longer place keeps what stood beyond the result; one of its length; shorter ones are left as they are, with 11
given-left : left (Ok (1 ∷ 2 ∷ [])) (7 ∷ 8 ∷ 9 ∷ []) ++ left (Ok (1 ∷ 2 ∷ [])) (7 ∷ 8 ∷ []) ++ left (Ok (1 ∷ 2 ∷ [])) (7 ∷ [])
    ++ left (Ok (1 ∷ 2 ∷ [])) []
    ≡ (0 ∷ 2 ∷ 1 ∷ 2 ∷ 9 ∷ []) ++ (0 ∷ 2 ∷ 1 ∷ 2 ∷ []) ++ (11 ∷ 0 ∷ 7 ∷ []) ++ (11 ∷ 0 ∷ [])
unfolding left placed place_answer
given-left = refl

-- a refusal leaves every place as it is, with its own number, also one that is too short
refused-left : left (Err NoSuchRow) (7 ∷ 8 ∷ []) ++ left (Err NoSuchRow) [] ≡ (7 ∷ 0 ∷ 7 ∷ 8 ∷ []) ++ (7 ∷ 0 ∷ [])
unfolding left placed place_answer
refused-left = refl
