-- How long lines are whose numbers ascend, those of touches and of warm segments: the numbers below n have as many digits together as
-- `digits_below n` says, where n is at most 10,000.
use Prim.Native.Nat.{ℕ, suc, ◌+◌, ◌-◌, ◌*◌, ◌≤◌, ◌<◌}
use mathlib.Core.Path.{◌≡◌, refl}
use mathlib.Core.Logic.{◌⊎◌, inl, inr, ⊎_elim}
use mathlib.Core.Bool.{Bool, true, false, cond, false≢true}
use mathlib.Core.List.{List, [], ◌∷◌}
use mathlib.Core.Option.{Option, none, some}
use native.Mathlib.Nat.{add-le-add}
use native.Mathlib.Omega.{arith}
use borrow.Author.Tests.{ltb-true, ltb-false}
use lib.Dec.{ltb}
use lib.ListN.{length, length-append}
use Rattle.decimal.specs.Decimal.{written}
use Rattle.decimal.proofs.Written.{written-some, written-length, written-longer}
use Rattle.text.specs.Keys.{mark_letter, hold_key}
use Rattle.text.specs.Texts.{number_text, lines_text}
use Rattle.text.proofs.Lengths.{line-length}
use Rattle.text.proofs.Runs.{Each}
use Rattle.sheet.specs.Touches.{Touch, step_word, touch_text, touches_text}
use Rattle.sheet.specs.Warm.{above_hold}
use Rattle.sheet.proofs.Touches.{step_of, TouchFits}
use Rattle.sheet.proofs.Words.{HoldFits}

-- the digits of the numbers below n together, where n is at most 10,000
abbrev pub digits_below : ℕ → ℕ
digits_below n = n + (n - 10) + (n - 100) + (n - 1000)

-- a number is below another, or not
below_or : (k n : ℕ) → (n < k) ⊎ (k ≤ n)
below_or k n = go (ltb n k) refl
  where
    go : (b : Bool) → ltb n k ≡ b → (n < k) ⊎ (k ≤ n)
    go true e = inl (ltb-true n k e)
    go false e = inr (ltb-false n k e)

-- the digits of one number more
pub digits-next : (n : ℕ) → n < 10000 → digits_below n + length (written n) ≡ digits_below (suc n)
digits-next n h =
    ⊎_elim (λ a. omega (arith, written-length 0 n a, written-some n))
    (λ a. ⊎_elim (λ b. omega (arith, written-length 1 n b, written-longer 1 n a))
    (λ b. ⊎_elim (λ c. omega (arith, written-length 2 n c, written-longer 2 n b))
    (λ c. omega (arith, written-length 3 n h, written-longer 3 n c)) (below_or 1000 n)) (below_or 100 n))
    (below_or 10 n)

-- more numbers have no fewer digits
sub-rises : (k b n : ℕ) → b ≤ n → b - k ≤ n - k
sub-rises k b n l = omega arith

pub digits-rise : (b n : ℕ) → b ≤ n → digits_below b ≤ digits_below n
digits-rise b n l = add-le-add (add-le-add (add-le-add l (sub-rises 10 b n l)) (sub-rises 100 b n l)) (sub-rises 1000 b n l)

-- the digits of a number and those below one before it are within those up to it
digits_above : (b n : ℕ) → b ≤ n → n < 10000 → digits_below b + length (written n) ≤ digits_below (suc n)
digits_above b n l h = rw (← digits-next n h) (add-le-add (digits-rise b n l) (omega arith))

-- elements whose places `at` ascend to `top`: each line has at most w bytes, and the digits of the numbers that its place goes on by
pub ascending-within : {A : Type 0} (at : Option A → ℕ) (text : A → List ℕ) (F : Option A → A → Type 0) (w top : ℕ)
    → ((prev : Option A) (x : A) → F prev x
    → (at prev < at (some x)) × (at (some x) ≤ top) × (length (text x) + digits_below (at prev) ≤ w + digits_below (at (some x))))
    → (xs : List A) (prev : Option A) → at prev ≤ top → Each F prev xs
    → (length xs + at prev ≤ top) × (length (lines_text text xs) + digits_below (at prev) ≤ w * length xs + digits_below top)
unfolding lines_text
ascending-within at text F w top f [] prev l c = (omega arith, add-le-add (omega arith) (digits-rise (at prev) top l))
ascending-within at text F w top f (x ∷ xs) prev l (h, c) =
    let (a, u, d) = f prev x h in
    let (n, m) = ascending-within at text F w top f xs (some x) u c in
    (omega (arith, a, n), rw length-append (omega (arith, m, d)))

-- a step that is written, and the letter
pub step-length : (modifies : Bool) (step : ℕ) → length (step_word modifies step) ≡ length (written step) + cond modifies 1 0
step-length true step = length-append (written step) (mark_letter ∷ [])
step-length false step = omega arith

-- the line of a touch: its two numbers, the letter where it modifies, and six bytes
pub touch-length : (x : Touch)
    → length (touch_text x) ≡ 6 + (length (written x.segment) + (length (written x.step) + cond x.modifies 1 0))
touch-length x = simp length-append (omega (arith, step-length x.modifies x.step))

-- the most bytes of such a line, but for the digits of its step: one more in a form with the letter
abbrev pub touch_width : Bool → ℕ
touch_width letters = cond letters 10 9

-- a letter stands in such a form alone
letter-within : (letters modifies : Bool) → (modifies ≡ true → letters ≡ true) → 9 + cond modifies 1 0 ≤ touch_width letters
letter-within true true h = omega arith
letter-within true false h = omega arith
letter-within false true h = absurd (false≢true (h refl))
letter-within false false h = omega arith

-- touches of at most 1,000 segments
pub touches-within : (letters : Bool) (segs steps : ℕ) → segs ≤ 1000 → steps < 10000 → (xs : List Touch)
    → Each (TouchFits letters segs steps) none xs
    → (length xs ≤ steps) × (length (touches_text xs) ≤ touch_width letters * length xs + (digits_below (suc steps) - 1))
touches-within letters segs steps g h xs c =
    let F = TouchFits letters segs steps in
    let (n, m) = ascending-within (λ p. suc (step_of p)) touch_text F (touch_width letters) (suc steps) fits xs none (omega arith) c in
    (omega (arith, n), omega (arith, m))
  where
    fits : (prev : Option Touch) (x : Touch) → TouchFits letters segs steps prev x
        → (suc (step_of prev) < suc x.step) × (suc x.step ≤ suc steps)
        × (length (touch_text x) + digits_below (suc (step_of prev)) ≤ touch_width letters + digits_below (suc x.step))
    fits prev x f = (
      omega (arith, f.step_above),
      omega (arith, f.step_within),
      rw (touch-length x) (omega (
        arith,
        digits_above (suc (step_of prev)) x.step f.step_above (omega (arith, f.step_within)),
        written-length 2 x.segment (omega (arith, f.segment_below)),
        letter-within letters x.modifies f.letter,
      )),
    )

-- the line of a warm segment: its number, and six bytes
pub hold-length : (x : ℕ) → length (number_text hold_key x) ≡ 6 + length (written x)
hold-length x = rw (line-length hold_key (written x)) (omega arith)

-- the first number that may follow a warm segment
abbrev after_hold : Option ℕ → ℕ
after_hold none = 0
after_hold (some x) = suc x

-- what is above the one before is one that may follow it
hold-after : (prev : Option ℕ) (x : ℕ) → above_hold prev x ≡ true → after_hold prev ≤ x
hold-after none x e = omega arith
hold-after (some p) x e = ltb-true p x e

-- warm segments of at most 1,000: each line has 6 bytes and its number's digits
pub holds-within : (segs : ℕ) → 1 ≤ segs → segs ≤ 1000 → (xs : List ℕ) → Each (HoldFits segs) none xs
    → length (lines_text (number_text hold_key) xs) ≤ 6 * length xs + digits_below segs
holds-within segs one h xs c =
    omega (arith, (ascending-within after_hold (number_text hold_key) (HoldFits segs) 6 segs fits xs none (omega arith) c).1)
  where
    fits : (prev : Option ℕ) (x : ℕ) → HoldFits segs prev x
        → (after_hold prev < suc x) × (suc x ≤ segs)
        × (length (number_text hold_key x) + digits_below (after_hold prev) ≤ 6 + digits_below (suc x))
    fits prev x (f, a) =
        let l = hold-after prev x a in
        (omega arith, omega (arith, f.1), rw (hold-length x) (omega (arith, digits_above (after_hold prev) x l (omega (arith, f.1)))))
