-- What the calls for the misses of a sheet answer, by the verdict on the sheet and the place.
use Rattle.std.specs.Prelude.{Result, Ok, Err}
use Prim.Native.Nat.{ℕ, suc, ◌≤◌}
use mathlib.Core.Path.{◌≡◌, refl, ◌∙◌}
use mathlib.Core.Bool.{Bool, true, false, cond}
use mathlib.Core.List.{List}
use native.Mathlib.Omega.{arith}
use lib.Dec.{ltb}
use lib.ListN.{length, take}
use borrow.Author.Tests.{ltb-true, ltb-false}
use Rattle.model.specs.Places.{PlaceLeft}
use Rattle.model.specs.Refusals.{first_of}
use Rattle.model.specs.Sheets.{SheetValue, trace_of}
use Rattle.model.specs.Standing.{Standing}
use Rattle.model.specs.Values.{head_value_of, value_of}
use Rattle.model.specs.declared.Sheet.{Sheet}
use Rattle.model.specs.declared.Refusal.{Refusal}
use Rattle.model.specs.declared.Refusal.TheVariants.{PlaceTooShort}
use Rattle.model.proofs.Places.{text-short, text-fits, refusal-left}
use Rattle.model.proofs.Standing.{warm-counted}
use Rattle.model.proofs.Tables.{length-tabulate}
use Rattle.replacement.specs.Answers.{ones_verdict, list_after, curve_for, plain_for}
use Rattle.replacement.specs.Memory.{lru_simulated, simulated_curve}
use Rattle.replacement.specs.Recency.{lru_misses, lru_curve}
use Rattle.lru_curve.specs.inner.Left.{EveryRun, ByDistances, BySimulation, curve_verdict, CurveLeft}
use Rattle.lru_curve.proofs.Ones.{every-run}

-- refused, nothing is written; the list has a number for each segment
list-refused : (sizes list place : List ℕ) (ones : Result (Unit {0}) Refusal) (why : Refusal) → length list ≡ length sizes
    → first_of ones (cond (ltb (length place) (length sizes)) (Err PlaceTooShort) (Ok tt)) ≡ Err why
    → PlaceLeft (list_after ones list) place place (Err why)
list-refused sizes list place (Err r) why long e =
    let same : r ≡ why = cc in
    rw (← same) (refusal-left r place)
list-refused sizes list place (Ok u) why long e = go (ltb (length place) (length sizes)) refl e
  where
    go : (b : Bool) → ltb (length place) (length sizes) ≡ b
        → ◌≡◌ {A = Result (Unit {0}) Refusal} (cond b (Err PlaceTooShort) (Ok tt)) (Err why) → PlaceLeft (Ok list) place place (Err why)
    go true h f =
        let same : PlaceTooShort ≡ why = cc in
        rw (← same) (text-short list place (omega (arith, long, ltb-true (length place) (length sizes) h)))
    go false h f = absurd cc

-- accepted, every size is 1 and no segment is warm, and there is room
list-taken : (sizes place : List ℕ) (ones : Result (Unit {0}) Refusal)
    → first_of ones (cond (ltb (length place) (length sizes)) (Err PlaceTooShort) (Ok tt)) ≡ Ok tt
    → (ones ≡ Ok tt) × (length sizes ≤ length place)
list-taken sizes place (Err r) e = absurd cc
list-taken sizes place (Ok u) e = (refl, go (ltb (length place) (length sizes)) refl e)
  where
    go : (b : Bool) → ltb (length place) (length sizes) ≡ b
        → ◌≡◌ {A = Result (Unit {0}) Refusal} (cond b (Err PlaceTooShort) (Ok tt)) (Ok tt) → length sizes ≤ length place
    go true h f = absurd cc
    go false h f = ltb-false (length place) (length sizes) h

module _ (v : SheetValue) (place : List ℕ) where
  -- the verdict on the sheet, and on the place for its list
  abbrev pub asked : Result (Unit {0}) Refusal
  asked = curve_verdict v.head.sizes (length v.head.warm) (length place)

  curve-long : length (lru_curve (trace_of v)) ≡ length v.head.sizes
  curve-long = length-tabulate (length v.head.sizes) (λ j. lru_misses (trace_of v) (suc j))

  plain-long : length (simulated_curve (trace_of v)) ≡ length v.head.sizes
  plain-long = length-tabulate (length v.head.sizes) (λ j. lru_simulated (trace_of v) (suc j))

  module _ (why : Refusal) (refused : asked ≡ Err why) where
    pub curve-refused : CurveLeft v place place (Err why)
    unfolding curve_for
    curve-refused = record {
      left = list-refused v.head.sizes (lru_curve (trace_of v)) place _ why curve-long refused;
      looked_is = refl;
      bounded = omega arith;
    }

    pub plain-refused : PlaceLeft (plain_for v) place place (Err why)
    unfolding plain_for
    plain-refused = list-refused v.head.sizes (simulated_curve (trace_of v)) place _ why plain-long refused

  module _ (taken : asked ≡ Ok tt) where
    ones : ones_verdict v.head.sizes (length v.head.warm) ≡ Ok tt
    ones = (list-taken v.head.sizes place _ taken).0

    pub room : length v.head.sizes ≤ length place
    room = (list-taken v.head.sizes place _ taken).1

    -- the list is written, of n numbers
    pub curve-placed : (place' : List ℕ) (n : ℕ) → n ≡ length v.head.sizes → (looked : ℕ)
        → EveryRun v.head.sizes v.entries (λ T. ByDistances T place place' looked)
        → CurveLeft v place place' (Ok (record { length = n; looked = looked }))
    unfolding curve_for
    curve-placed place' n counted looked every =
        let d = every-run v (λ T. ByDistances T place place' looked) ones every in
        let fits = text-fits (lru_curve (trace_of v)) place curve-long room in
        rw counted
        record {
          left = rw ones (record { answer_is = fits.answer_is; place_is = d.place_is ∙ fits.place_is });
          looked_is = d.looked_is;
          bounded = d.bounded;
        }

    pub plain-placed : (place' : List ℕ) (n : ℕ) → n ≡ length v.head.sizes
        → EveryRun v.head.sizes v.entries (λ T. BySimulation T place place') → PlaceLeft (plain_for v) place place' (Ok n)
    unfolding plain_for
    plain-placed place' n counted every =
        let e = every-run v (λ T. BySimulation T place place') ones every in
        let fits = text-fits (simulated_curve (trace_of v)) place plain-long room in
        rw (counted, ones) (record { answer_is = fits.answer_is; place_is = e ∙ fits.place_is })

-- the verdict on a sheet by its fields
pub asked-is : (s : Sheet) → Standing s → (place : List ℕ)
    → curve_verdict (take s.head.segs s.head.sizes) s.head.warm (length place) ≡ asked (value_of s) place
unfolding value_of head_value_of
asked-is s ok place = rw (warm-counted s ok)
