-- Laws of lists of digits: what stands in one, and the value of one that goes on.
use mathlib.Core.Path.{◌≡◌, refl}
use mathlib.Core.Bool.{Bool, true, false, not, ◌&&◌}
use mathlib.Core.List.{List, [], ◌∷◌, ◌++◌}
use Prim.Native.Nat.{ℕ, zero, suc, ◌+◌, ◌*◌, ◌-◌, ◌≤◌, ◌<◌, min}
use native.Mathlib.Nat.{le_of_suc-le-suc, not-suc-le-zero, min-eq_left}
use native.Mathlib.Omega.{arith}
use borrow.Author.Tests.{leb-true, leb-false, le-leb, lt-leb}
use borrow.Table.Steps.{cases}
use lib.Dec.{leb, eqb}
use lib.ListN.{length, get_or}
use Rattle.decimal.specs.Decimal.{is_digit, all_digits, value_from, is_number}

-- both halves of a test that holds
pub both : (a b : Bool) → (a && b) ≡ true → (a ≡ true) × (b ≡ true)
both true b e = (refl, e)
both false true e = (e, refl)
both false false e = (e, e)

-- a digit is a byte from 48 to 57
pub digit-bounds : (b : ℕ) → is_digit b ≡ true → (48 ≤ b) × (b ≤ 57)
digit-bounds b e = let h = both (leb 48 b) (leb b 57) e in (leb-true 48 b h.0, leb-true b 57 h.1)

-- and a byte from 48 to 57 is a digit
pub digit-is : (b : ℕ) → 48 ≤ b → b ≤ 57 → is_digit b ≡ true
digit-is b l h = rw (le-leb 48 b l, le-leb b 57 h)

-- so is the digit of a number below ten
pub digit-of : (d : ℕ) → d < 10 → is_digit (48 + d) ≡ true
digit-of d h = digit-is (48 + d) (omega arith) (omega arith)

-- a lower byte is no digit
pub below-digit : (b : ℕ) → b < 48 → is_digit b ≡ false
below-digit b h = rw (lt-leb 48 b h)

-- nor is a higher one
pub above-digit : (b : ℕ) → 57 < b → is_digit b ≡ false
above-digit b h = rw (le-leb 48 b (omega arith), lt-leb b 57 h)

-- every place of a list of digits has a byte from 48 to 57: neither a line feed (10) nor "/" (47)
pub digit_at : (s : List ℕ) → all_digits s ≡ true → (i : ℕ) → i < length s → (48 ≤ get_or s i 0) × (get_or s i 0 ≤ 57)
unfolding all_digits
digit_at [] e i h = absurd (not-suc-le-zero h)
digit_at (b ∷ s) e zero h = digit-bounds b (both (is_digit b) (all_digits s) e).0
digit_at (b ∷ s) e (suc i) h = digit_at s (both (is_digit b) (all_digits s) e).1 i (le_of_suc-le-suc h)

-- a number has digits only
pub number_digits : (s : List ℕ) → is_number s ≡ true → all_digits s ≡ true
unfolding is_number all_digits
number_digits [] e = refl
number_digits (b ∷ []) e = rw e
number_digits (b ∷ c ∷ s) e = (both (not (eqb b 48)) (all_digits (b ∷ c ∷ s)) e).1

-- digits followed by digits
pub digits_append : (s t : List ℕ) → all_digits s ≡ true → all_digits t ≡ true → all_digits (s ++ t) ≡ true
unfolding all_digits
digits_append [] t e f = f
digits_append (b ∷ s) t e f = let (d, r) = both (is_digit b) (all_digits s) e in rw (d, digits_append s t r f)

-- the value of a list that is followed by another goes on from the value of the first
pub value-append : (v : ℕ) (s t : List ℕ) → value_from v (s ++ t) ≡ value_from (value_from v s) t
unfolding value_from
value-append v [] t = refl
value-append v (b ∷ s) t = value-append (v * 10 + (b - 48)) s t

-- a value does not fall as digits follow
pub value_grows : (v : ℕ) (s : List ℕ) → v ≤ value_from v s
unfolding value_from
value_grows v [] = omega arith
value_grows v (b ∷ s) = omega (arith, value_grows (v * 10 + (b - 48)) s)

-- a value that is cut off at m is the same after further digits, once cut off again
pub value-cut : (m v : ℕ) (s : List ℕ) → min (value_from (min v m) s) m ≡ min (value_from v s) m
value-cut m v s =
    cases (leb v m) (λ e. rw (min-eq_left (leb-true v m e)))
    (λ e. omega (arith, leb-false v m e, value_grows (min v m) s, value_grows v s))
