-- What an exported call returns and leaves in a lent value, from the answer that it had.
use Rattle.std.specs.Prelude.{Result, Ok, Err}
use Prim.Native.Nat.{ℕ}
use mathlib.Core.Path.{◌≡◌, refl, ap, ◌∙◌}
use mathlib.Core.List.{List}
use Rattle.model.specs.Places.{answer_for, PlaceLeft}
use Rattle.model.specs.Refusals.{number_of, verdict_number, value_or_zero}
use Rattle.model.specs.declared.Refusal.{Refusal}
use Rattle.replacement.specs.Answers.{no_curve, curve_length}
use Rattle.replacement.specs.declared.Curve.{Curve}
use Rattle.analyser.specs.Curves.{lru_result, LruLeft}
use Rattle.exports.specs.Curving.{LruCall}
use Rattle.exports.specs.Exported.{or_old, itself, PlaceCall}

-- a call whose answer is the one that is due
module _ {A B : Type 0} (value : A → B) (due : Result A Refusal) (old : B) where
  abbrev pub Tells : ℕ → B → Type 0
  Tells n x = (n ≡ verdict_number due) × (x ≡ or_old value due old)

  pub accepted-tells : {x : B} {a : A} → Ok a ≡ due → x ≡ value a → Tells 0 x
  accepted-tells e h = rw (← e) (refl, h)

  pub refused-tells : {n : ℕ} {q : Refusal} → Err q ≡ due → n ≡ number_of q → Tells n old
  refused-tells e h = rw (← e) (h, refl)

-- a call that writes into a lent place, from what the analyser's call answered and left, and from what was told of the answer
pub place-call : {result : Result (List ℕ) Refusal} {place place' : List ℕ} {written written' returned : ℕ} (answer : Result ℕ Refusal)
    → PlaceLeft result place place' answer
    → (returned ≡ verdict_number answer) × (written' ≡ or_old itself answer written)
    → PlaceCall result place place' written written' returned
place-call answer a t =
    record {
      returned_is = rw a.answer_is at t.0;
      place_is = a.place_is;
      written_is = rw a.answer_is at t.1;
    }

-- a call that is refused before it writes
pub place-refused : {result : Result (List ℕ) Refusal} {place : List ℕ} {written returned : ℕ} {q : Refusal} → result ≡ Err q
    → returned ≡ number_of q → PlaceCall result place place written written returned
place-refused e h = rw e (record { returned_is = h; place_is = refl; written_is = refl })

-- the call for the misses by stack distances, which tells the entries looked at beside
pub lru-call : {s place place' : List ℕ} {written written' looked looked' returned : ℕ} (answer : Result Curve Refusal)
    → LruLeft s place place' answer
    → (returned ≡ verdict_number (curve_length answer)) × (written' ≡ or_old itself (curve_length answer) written)
    → looked' ≡ or_old (λ (n : ℕ). (value_or_zero no_curve answer).looked) (curve_length answer) looked
    → LruCall s place place' written written' looked looked' returned
lru-call {s} {place} {looked = looked} answer l t o =
    record {
      placed = place-call (curve_length answer) l.left t;
      looked_is =
          o
          ∙ ap (λ (p : Result ℕ Refusal). or_old (λ (n : ℕ). (value_or_zero no_curve answer).looked) p looked) l.left.answer_is
          ∙ ap (λ (m : ℕ). or_old (λ (n : ℕ). m) (answer_for (lru_result s) place) looked) l.looked_is;
    }
