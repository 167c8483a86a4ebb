-- What a call that has a text, or a refusal, for a lent place answers and leaves there.
use Rattle.std.specs.Prelude.{Result, Ok, Err}
use Prim.Native.Nat.{ℕ, ◌≤◌, ◌<◌}
use mathlib.Core.Path.{◌≡◌, refl}
use mathlib.Core.Bool.{Bool, true, false, cond}
use mathlib.Core.List.{List, ◌++◌}
use native.Mathlib.Omega.{arith}
use lib.ListN.{length, drop}
use borrow.Author.Tests.{le-leb, lt-leb, leb-true}
use lib.Dec.{leb}
use Rattle.model.specs.Places.{placed, place_answer, PlaceLeft}
use Rattle.model.specs.declared.Refusal.{Refusal}
use Rattle.model.specs.declared.Refusal.TheVariants.{PlaceTooShort}

-- a place that is too short for the text stays
pub text-short : (text place : List ℕ) → length place < length text → PlaceLeft (Ok text) place place (Err PlaceTooShort)
unfolding placed place_answer
text-short text place h =
    let short = lt-leb (length text) (length place) h in
    record { answer_is = rw short; place_is = rw short }

-- a text of n bytes in a place that is long enough for it
pub text-fits : (text place : List ℕ) {n : ℕ} → length text ≡ n → n ≤ length place
    → PlaceLeft (Ok text) place (text ++ drop n place) (Ok n)
unfolding placed place_answer
text-fits text place e fits =
    let h = le-leb (length text) (length place) (omega arith) in
    record { answer_is = rw (h, e); place_is = rw (h, e) }

-- the length that is told lies within the place
pub left-length : {text place place' : List ℕ} {n : ℕ} → PlaceLeft (Ok text) place place' (Ok n) → n ≤ length place
unfolding place_answer
left-length {text} {place} {place'} {n} left = go (leb (length text) (length place)) refl left.answer_is
  where
    told : Result ℕ Refusal
    told = Ok n

    go : (b : Bool) → leb (length text) (length place) ≡ b → told ≡ cond b (Ok (length text)) (Err PlaceTooShort) → n ≤ length place
    go true t e = let same : n ≡ length text = cc in omega (arith, same, leb-true (length text) (length place) t)
    go false t e = absurd cc

-- a refusal leaves the place as it was
pub refusal-left : (r : Refusal) (place : List ℕ) → PlaceLeft (Err r) place place (Err r)
refusal-left r place = record { answer_is = refl; place_is = refl }
