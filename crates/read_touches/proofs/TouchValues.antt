-- Laws of reading one line of a touch: the step and the letter after it, and the touch by its two readings. `letters` says that the form
-- has the letter w.
use Prim.Native.Nat.{ℕ, suc, ◌+◌, ◌-◌, ◌≤◌, ◌<◌}
use mathlib.Core.Path.{◌≡◌, refl, sym, ap, ◌∙◌}
use mathlib.Core.Bool.{Bool, true, false, cond, ◌&&◌}
use mathlib.Core.List.{List}
use native.Mathlib.Numerals.{add-one}
use native.Mathlib.Omega.{arith}
use borrow.Author.Tests.{le-leb, lt-ltb, le-ltb, leb-true, leb-false, ltb-true, ltb-false}
use borrow.Table.Steps.{cases}
use lib.Dec.{leb, ltb}
use lib.ListN.{length, take, drop, length-drop, drop_of_length-le}
use lib.Seq.{drop-cons, take_all}
use Rattle.text.specs.Keys.{at_sign, mark_letter}
use Rattle.model.specs.declared.Refusal.{Refusal}
use Rattle.model.specs.declared.Refusal.TheVariants.{ValueMalformed, OutOfRange, StepNotAbove}
use Rattle.decimal.specs.Decimal.{is_number, value, reading_of}
use Rattle.std.specs.Prelude.{Result, Ok, Err, IfOk}
use Rattle.decimal.specs.declared.NumberError.{NumberError}
use Rattle.decimal.specs.declared.NumberError.TheVariants.{NotNumber, OutOfRange as Beyond}
use Rattle.decimal.proofs.Readings.{reading-number}
use Rattle.sheet.specs.Lines.{read, refused, Split, parts, none as unsplit, split_at}
use Rattle.scan.specs.inner.AtPlace.{split_at_place}
use Rattle.sheet.specs.Touches.{step_part, touch_of, touch_parts}
use Rattle.read_touches.specs.inner.TouchAtPlace.{touch_of_two, touch_before}
use Rattle.read_touches.specs.declared.Touch.{Touch as TouchRead}
use Rattle.scan.proofs.Splits.{place-within, place-beyond}
use Rattle.scan.proofs.Tails.{tail, tail-is}

-- ---- the bytes of a step, and the letter after them

-- the first r of them, and whether one more follows
abbrev step_up_to : List ℕ → ℕ → List ℕ × Bool
step_up_to y r = (take r y, ltb r (length y))

all-bytes : (y : List ℕ) → (y, false) ≡ step_up_to y (length y)
all-bytes y = rw (take_all (length y) y (omega arith), le-ltb (length y) (length y) (omega arith))

-- a form without the letter takes them all
pub step-whole : (letters : Bool) (y : List ℕ) → letters ≡ false → step_part letters y ≡ step_up_to y (length y)
step-whole letters y t = rw t (all-bytes y)

-- a form that has it takes them all where it is not there
pub step-unmarked : (letters : Bool) (y : List ℕ) → letters ≡ true → split_at mark_letter y ≡ unsplit
    → step_part letters y ≡ step_up_to y (length y)
step-unmarked letters y t f = rw (t, f) (all-bytes y)

module _ (letters : Bool) (y : List ℕ) (k : ℕ) (t : letters ≡ true) (f : split_at mark_letter y ≡ split_at_place y k) where
  -- the first letter stands at their end
  pub step-letter : k + 1 ≡ length y → step_part letters y ≡ step_up_to y k
  step-letter e =
      let h : k < length y = omega arith in
      let l : length y ≤ suc k = omega arith in
      rw (t, f, place-within y k h, drop_of_length-le y l, lt-ltb k (length y) h)

  -- it does not
  pub step_other : (k + 1 ≡ length y → ⊥) → step_part letters y ≡ step_up_to y (length y)
  step_other n =
      let more : k < length y → suc k < length y = λ h. omega (arith, n) in
      rw (t, f)
      (cases (ltb k (length y))
      (λ e. let h = ltb-true k (length y) e in rw (place-within y k h, drop-cons y (suc k) 0 (more h)) (all-bytes y))
      (λ e. rw (place-beyond y k (ltb-false k (length y) e)) (all-bytes y)))

-- ---- two numbers around "@"

-- the touch of the two values of a split, the first up to hi, the second from..to, in a form that has the letter w perhaps with it
abbrev pub touch_around : Bool → ℕ → ℕ → ℕ → Split → Result TouchRead Refusal
touch_around letters hi from to (parts x y) =
    touch_of_two (reading_of 0 hi x) (reading_of from to (step_part letters y).0) (step_part letters y).1
touch_around letters hi from to unsplit = Err ValueMalformed

module _ (letters : Bool) (hi from to : ℕ) (v : List ℕ) (k : ℕ) (f : split_at at_sign v ≡ split_at_place v k) where
  -- where the place k splits the value, they are read from its two sides, the second up to the place end
  pub pair_within : (x y : Result ℕ NumberError) (end r : ℕ) → k < length v → step_part letters (tail v (k + 1)) ≡ step_up_to (tail v (k + 1)) r
      → end ≡ k + 1 + r → x ≡ reading_of 0 hi (take k v) → y ≡ reading_of from to (take (end - (k + 1)) (drop (k + 1) v))
      → touch_of_two x y (ltb end (length v)) ≡ touch_around letters hi from to (split_at at_sign v)
  pair_within x y end r h g e ex ey =
      let d : end - (k + 1) ≡ r = omega arith in
      let t : tail v (k + 1) ≡ drop (suc k) v = tail-is v (k + 1) ∙ ap (λ i. drop i v) (add-one k) in
      let w : take (end - (k + 1)) (drop (k + 1) v) ≡ take r (tail v (k + 1)) =
      ap (λ i. take i (drop (k + 1) v)) d ∙ ap (take r) (sym (tail-is v (k + 1))) in
      let b : ltb end (length v) ≡ ltb r (length (tail v (k + 1))) = up_to end r e h in
      let p : touch_of_two (reading_of 0 hi (take k v)) (reading_of from to (take r (tail v (k + 1)))) (ltb r (length (tail v (k + 1))))
      ≡ touch_around letters hi from to (parts (take k v) (tail v (k + 1))) = rw g in
      rw (ex, ey, w, b, f, place-within v k h, ← t) p
    where
      up_to : (end r : ℕ) → end ≡ k + 1 + r → k < length v → ltb end (length v) ≡ ltb r (length (tail v (k + 1)))
      up_to end r e h =
          let l : length (tail v (k + 1)) ≡ length v - (k + 1) = ap length (tail-is v (k + 1)) ∙ length-drop (k + 1) v in
          rw l
          (cases (ltb end (length v))
          (λ i. i ∙ sym (lt-ltb r (length v - (k + 1)) (omega (arith, ltb-true end (length v) i))))
          (λ i. i ∙ sym (le-ltb r (length v - (k + 1)) (omega (arith, ltb-false end (length v) i)))))

-- else there is none
pub pair-none : (letters : Bool) (hi from to : ℕ) (v : List ℕ) → split_at at_sign v ≡ unsplit
    → Err ValueMalformed ≡ touch_around letters hi from to (split_at at_sign v)
pair-none letters hi from to v f = rw f

-- a number that is read does not exceed its bound
pub reading-bound : (lo hi most : ℕ) (v : List ℕ) (x : Result ℕ NumberError) → x ≡ reading_of lo hi v → hi < most
    → IfOk x (λ n. n < most)
reading-bound lo hi most v (Ok n) e h = omega (arith, reading-number lo hi v n (sym e))
reading-bound lo hi most v (Err r) e h = tt

-- ---- one touch

-- below a number is up to the one before it
below-leb : (v n : ℕ) → 1 ≤ n → ltb v n ≡ leb v (n - 1)
below-leb v n h =
    cases (leb v (n - 1)) (λ e. lt-ltb v n (omega (arith, leb-true v (n - 1) e)) ∙ sym e)
    (λ e. le-ltb v n (omega (arith, leb-false v (n - 1) e)) ∙ sym e)

-- a touch of two values is that of the pair of their readings
touch-two : (segs steps before : ℕ) → 1 ≤ segs → (x y : List ℕ) (m : Bool) (rest : List ℕ)
    → touch_of segs steps before x y m rest ≡ touch_before (touch_of_two (reading_of 0 (segs - 1) x) (reading_of (before + 1) steps y) m) rest
touch-two segs steps before h x y m rest =
    rw (below-leb (value x) segs h, add-one before, le-leb 0 (value x) (omega arith))
    (by_tests (is_number x) (is_number y) (leb (value x) (segs - 1)) (leb (suc before) (value y) && leb (value y) steps))
  where
    by_tests : (a b h d : Bool)
        → cond (a && b)
        (cond h
        (cond d (read (record { segment = value x; step = value y; modifies = m }) rest) (refused StepNotAbove))
        (refused OutOfRange))
        (refused ValueMalformed)
        ≡ touch_before
        (touch_of_two (cond a (cond h (Ok (value x)) (Err Beyond)) (Err NotNumber)) (cond b (cond d (Ok (value y)) (Err Beyond)) (Err NotNumber)) m) rest
    by_tests false false h d = refl
    by_tests false true h true = refl
    by_tests false true h false = refl
    by_tests true false true d = refl
    by_tests true false false d = refl
    by_tests true true true true = refl
    by_tests true true true false = refl
    by_tests true true false true = refl
    by_tests true true false false = refl

-- so is that of a split value
pub touch-pair : (letters : Bool) (segs steps before : ℕ) → 1 ≤ segs → (p : Split) (rest : List ℕ)
    → touch_parts letters segs steps before p rest ≡ touch_before (touch_around letters (segs - 1) (before + 1) steps p) rest
touch-pair letters segs steps before h unsplit rest = refl
touch-pair letters segs steps before h (parts x y) rest =
    touch-two segs steps before h x (step_part letters y).0 (step_part letters y).1 rest

-- and that of a value, whose touch is known
pub touch-value : (letters : Bool) (segs steps before : ℕ) → 1 ≤ segs → (v rest : List ℕ) (r : Result TouchRead Refusal)
    → r ≡ touch_around letters (segs - 1) (before + 1) steps (split_at at_sign v)
    → touch_before r rest ≡ touch_parts letters segs steps before (split_at at_sign v) rest
touch-value letters segs steps before h v rest r e =
    ap (λ x. touch_before x rest) e ∙ sym (touch-pair letters segs steps before h (split_at at_sign v) rest)
