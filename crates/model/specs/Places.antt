-- What a call leaves in a lent place, and what it answers: the result and then the old contents, or a refusal and no change.
use Rattle.std.specs.Prelude.{ℕ, ◌≡◌, cond, List, ◌++◌, length, drop, leb, Result, Ok, Err}
use Rattle.model.specs.declared.Refusal.{Refusal}
use Rattle.model.specs.declared.Refusal.TheVariants.{PlaceTooShort}

-- the place afterwards: the result and what stood beyond it; as it was where it is shorter than the result
unfoldable pub placed : List ℕ → List ℕ → List ℕ
placed result place = cond (leb (length result) (length place)) (result ++ drop (length result) place) place

-- the answer: the length of the result, or refusal 11
unfoldable pub place_answer : List ℕ → List ℕ → Result ℕ Refusal
place_answer result place =
    cond (leb (length result) (length place)) (Ok (length result)) (Err PlaceTooShort)

-- what a call answers that has this result for a lent place, its bytes or a refusal: its length, or the refusal
abbrev pub answer_for : Result (List ℕ) Refusal → List ℕ → Result ℕ Refusal
answer_for (Ok result) place = place_answer result place
answer_for (Err r) place = Err r

-- and what it leaves in the place: no change where it refuses
abbrev pub place_for : Result (List ℕ) Refusal → List ℕ → List ℕ
place_for (Ok result) place = placed result place
place_for (Err r) place = place

-- what a call that has this for a lent place answers, and what the place is before and after it
pub record PlaceLeft (result : Result (List ℕ) Refusal) (place place' : List ℕ) (answer : Result ℕ Refusal) : Type 0 where
  pub answer_is : answer ≡ answer_for result place
  pub place_is : place' ≡ place_for result place
