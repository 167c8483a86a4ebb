-- What the converters have for a lent place, by the sheet in the other form.
use Rattle.std.specs.Prelude.{Result, Ok, Err}
use Rattle.model.specs.declared.Refusal.{Refusal}
use mathlib.Core.Path.{◌≡◌, sym, ap, ◌∙◌}
use mathlib.Core.Bool.{true, false, cond}
use mathlib.Core.List.{List}
use Prim.Native.Nat.{ℕ}
use lib.ListN.{take}
use Rattle.model.specs.Places.{PlaceLeft}
use Rattle.model.specs.Sheets.{SheetValue}
use Rattle.model.specs.Values.{value_of}
use Rattle.model.specs.declared.Refusal.TheVariants.{IdleStep}
use Rattle.model.specs.declared.Sheet.{Sheet}
use Rattle.model.proofs.Places.{refusal-left}
use Rattle.sheet.specs.Writing.{sheet_text}
use Rattle.sheet.specs.Forms.{in_form, some_idle, to_form_1, to_form_2}

-- the same result in other words
left_as : {x y : Result (List ℕ) Refusal} {p q : List ℕ} {a : Result ℕ Refusal} → x ≡ y → PlaceLeft x p q a → PlaceLeft y p q a
left_as e f = rw e at f

module _ {p q : List ℕ} {a : Result ℕ Refusal} (s : Sheet) where
  -- the text of the sheet in form 2
  pub later-left : {w : SheetValue} → w ≡ in_form 2 (value_of s) → PlaceLeft (Ok (sheet_text w)) p q a
      → PlaceLeft (to_form_2 (value_of s)) p q a
  later-left e f = left_as (ap (λ v. Ok (sheet_text v)) e) f

  -- the text of the sheet in form 1, where no step is idle
  pub first_left : {w : SheetValue} → some_idle (take s.steps s.touches) ≡ false → w ≡ in_form 1 (value_of s)
      → PlaceLeft (Ok (sheet_text w)) p q a → PlaceLeft (to_form_1 (value_of s)) p q a
  unfolding value_of
  first_left {w} n e f =
      left_as
      (ap (λ v. Ok (sheet_text v)) e
      ∙ sym (ap (λ b. cond b (Err IdleStep) (Ok (sheet_text (in_form 1 (value_of s))))) n))
      f

-- refusal 17, where one is
pub idle-left : (s : Sheet) (p : List ℕ) → some_idle (take s.steps s.touches) ≡ true → PlaceLeft (to_form_1 (value_of s)) p p (Err IdleStep)
unfolding value_of
idle-left s p n =
    left_as (sym (ap (λ b. cond b (Err IdleStep) (Ok (sheet_text (in_form 1 (value_of s))))) n)) (refusal-left IdleStep p)
