-- A sheet that was read stands for a valid value, and a call goes on from that value.
use Rattle.std.specs.Prelude.{Result, Ok, Err}
use Rattle.model.specs.declared.Sheet.{Sheet}
use Prim.Native.Nat.{ℕ, ◌≤◌}
use mathlib.Core.Path.{◌≡◌, refl, sym, ap, ◌∙◌}
use mathlib.Core.Bool.{Bool, true, false}
use mathlib.Core.List.{List}
use native.Mathlib.Omega.{arith}
use borrow.Author.Tests.{leb-true, leb-false}
use lib.Dec.{leb}
use lib.ListN.{length}
use Rattle.model.specs.Places.{PlaceLeft}
use Rattle.model.specs.Sheets.{SheetValue, Valid, newest_form, most_segs, most_rows, most_steps}
use Rattle.model.specs.Standing.{Standing}
use Rattle.model.specs.Values.{zeros, idles, zero_rows, blank_marks, head_of, sheet_of, value_of}
use Rattle.model.specs.declared.Refusal.{Refusal}
use Rattle.model.proofs.Places.{refusal-left}
use Rattle.model.proofs.Warm.{warm-few}
use Rattle.model.proofs.Values.{zeros-length, idles-length, zero-rows-length, blank-marks-length, padded-length}
use Rattle.sheet.specs.Accepting.{on_sheet}
use Rattle.sheet.specs.Answers.{answer_of}
use Rattle.sheet.specs.Reading.{Outcome, accepted, rejected, read_forms, read_sheet}
use Rattle.sheet.proofs.Accepted.{accepted-valid, accepted-form}
use Rattle.sheet.proofs.Held.{held}

-- a refused sheet: the call answers for the refusal
refused-on : {X : Type 0} (o : Outcome) (q : Refusal) → Err q ≡ answer_of o → (f : Refusal → X) (g : SheetValue → X) → on_sheet o f g ≡ f q
unfolding answer_of
refused-on (accepted v) q e f g = absurd cc
refused-on (rejected p) q e f g = let same : p ≡ q = cc in ap f same

-- an accepted sheet: the call answers for its value
accepted-on : {X : Type 0} (o : Outcome) (s : Sheet) → Ok s ≡ answer_of o → (f : Refusal → X) (g : SheetValue → X)
    → on_sheet o f g ≡ g (value_of s)
unfolding answer_of
accepted-on (accepted v) s e f g = let same : s ≡ sheet_of v = cc in ap g (sym (ap value_of same ∙ held v))
accepted-on (rejected p) s e f g = absurd cc

-- a valid value has at most as many marks as steps
marks-few : (v : SheetValue) → Valid v → length v.marks ≤ most_steps
marks-few v c = go (leb 4 v.form) refl
  where
    go : (b : Bool) → leb 4 v.form ≡ b → length v.marks ≤ most_steps
    go true e = omega (arith, c.marked (leb-true 4 v.form e), c.run.steps_within)
    go false e = rw (c.unmarked (omega (arith, leb-false 4 v.form e))) (omega arith)

-- the sheet with a valid value stands
held-stands : (v : SheetValue) → Valid v → Standing (sheet_of v)
unfolding sheet_of head_of
held-stands v c =
    let few : length v.head.warm ≤ most_segs = omega
    (arith, warm-few (length v.head.sizes) v.head.warm c.warm, c.run.segs_within) in
    let marks = marks-few v c in
    let blank = blank-marks-length most_steps in
    record {
      valid = rw (held v) c;
      segs_within = c.run.segs_within;
      rows_within = c.rows.rows_within;
      warm_within = few;
      steps_within = c.run.steps_within;
      sizes_whole = padded-length v.head.sizes (zeros most_segs) (omega (arith, zeros-length most_segs)) ∙ zeros-length most_segs;
      prices_whole = padded-length v.head.rows (zero_rows most_rows) (omega (arith, zero-rows-length most_rows))
          ∙ zero-rows-length most_rows;
      holds_whole = padded-length v.head.warm (zeros most_segs) (omega (arith, zeros-length most_segs)) ∙ zeros-length most_segs;
      touches_whole = padded-length v.entries (idles most_steps) (omega (arith, idles-length most_steps)) ∙ idles-length most_steps;
      marked_within = marks;
      marks_whole = padded-length v.marks (blank_marks most_steps) (omega (arith, blank)) ∙ blank;
    }

read-stands : (lo hi : ℕ) → hi ≤ newest_form → (s : List ℕ) (A : Sheet) (o : Outcome) → read_forms lo hi s ≡ o → Ok A ≡ answer_of o
    → Standing A
unfolding answer_of
read-stands lo hi new s A (accepted v) r e = let same : A ≡ sheet_of v = cc in rw same (held-stands v (accepted-valid lo hi new s v r))
read-stands lo hi new s A (rejected p) r e = absurd cc

read_held : (A : Sheet) (o : Outcome) → Ok A ≡ answer_of o → A ≡ sheet_of (value_of A)
unfolding answer_of
read_held A (accepted v) e = let same : A ≡ sheet_of v = cc in same ∙ ap sheet_of (sym (ap value_of same ∙ held v))
read_held A (rejected p) e = absurd cc

-- a call with a lent place: refused with the sheet it answers so, and leaves the place as it was
pub result-refused : (o : Outcome) {q : Refusal} {answer : Result ℕ Refusal} (place : List ℕ) (g : SheetValue → Result (List ℕ) Refusal)
    → answer ≡ Err q → Err q ≡ answer_of o → PlaceLeft (on_sheet o Err g) place place answer
result-refused o {q} place g n e = rw (refused-on o q e Err g, n) (refusal-left q place)

-- accepted, it leaves what it has for the sheet
pub result-accepted : (o : Outcome) {s : Sheet} {answer : Result ℕ Refusal} {place place' : List ℕ}
    (g : SheetValue → Result (List ℕ) Refusal) → PlaceLeft (g (value_of s)) place place' answer → Ok s ≡ answer_of o
    → PlaceLeft (on_sheet o Err g) place place' answer
result-accepted o {s} g left e = rw (accepted-on o s e Err g) left

-- a call that has a text also for a refusal
pub text-refused : (o : Outcome) {q : Refusal} {answer : Result ℕ Refusal} {place place' : List ℕ} (f : Refusal → List ℕ)
    (g : SheetValue → List ℕ) → PlaceLeft (Ok (f q)) place place' answer → Err q ≡ answer_of o
    → PlaceLeft (Ok (on_sheet o f g)) place place' answer
text-refused o {q} f g left e = rw (refused-on o q e f g) left

pub on-refused : {X : Type 0} (o : Outcome) (q : Refusal) → Err q ≡ answer_of o → (f : Refusal → X) (g : SheetValue → X)
    → on_sheet o f g ≡ f q
on-refused o q e f g = refused-on o q e f g

pub on-accepted : {X : Type 0} (o : Outcome) (s : Sheet) → Ok s ≡ answer_of o → (f : Refusal → X) (g : SheetValue → X)
    → on_sheet o f g ≡ g (value_of s)
on-accepted o s e f g = accepted-on o s e f g

pub sheet-is : (o : Outcome) (s : Sheet) → Ok s ≡ answer_of o → s ≡ sheet_of (value_of s)
sheet-is o s e = read_held s o e

-- the sheet stands, where the call takes known forms alone
pub forms-stand : (lo hi : ℕ) (s : List ℕ) (A : Sheet) → Ok A ≡ answer_of (read_forms lo hi s) → hi ≤ newest_form → Standing A
forms-stand lo hi s A e new = read-stands lo hi new s A (read_forms lo hi s) refl e

-- and where it takes every form
pub stands : (s : List ℕ) (A : Sheet) → Ok A ≡ answer_of (read_sheet s) → Standing A
stands s A e = forms-stand 1 newest_form s A e (omega arith)

-- and its form is one that the call takes
read_taken : (lo hi : ℕ) → 1 ≤ hi → (s : List ℕ) (A : Sheet) (o : Outcome) → read_forms lo hi s ≡ o → Ok A ≡ answer_of o
    → (lo ≤ A.form) × (A.form ≤ hi)
unfolding answer_of sheet_of
read_taken lo hi some s A (accepted v) r e =
    let same : A ≡ sheet_of v = cc in
    rw (ap (λ B. B.form) same) (accepted-form lo hi some s v r)
read_taken lo hi some s A (rejected p) r e = absurd cc

pub forms-taken : (lo hi : ℕ) (s : List ℕ) (A : Sheet) → Ok A ≡ answer_of (read_forms lo hi s) → 1 ≤ hi
    → (lo ≤ A.form) × (A.form ≤ hi)
forms-taken lo hi s A e some = read_taken lo hi some s A (read_forms lo hi s) refl e
