-- Laws of the digits of a number: they are a number, have its value, and are the only number that has it; and how many they are.
use mathlib.Core.Path.{◌≡◌, sym, ap, ◌∙◌}
use mathlib.Core.Bool.{true, false≢true, not}
use mathlib.Core.List.{List, [], ◌∷◌, ◌++◌, append_assoc, append-nil}
use Prim.Native.Nat.{ℕ, zero, suc, ◌+◌, ◌*◌, ◌-◌, ◌/◌, ◌%◌, ◌^◌, ◌≤◌, ◌<◌}
use native.Mathlib.Nat.{not-suc-le-zero, pow-suc, one-le-pow}
use native.Mathlib.Omega.{arith}
use borrow.Author.Tests.{ltb-true, ltb-false, lt-ltb, le-ltb, eqb-false, ne_eqb, not-true}
use borrow.Table.Steps.{cases}
use lib.Dec.{ltb, eqb}
use lib.ListN.{length, length-append}
use Rattle.decimal.specs.Decimal.{is_digit, all_digits, value_from, value, is_number, written_in, written}
use Rattle.decimal.proofs.Digits.{both, digit-bounds, digit-of, number_digits, digits_append, value-append}

-- ---- the digits of n, by n

-- one digit where n is below ten
in-low : (k n : ℕ) → n < 10 → written_in (suc k) n ≡ (48 + n) ∷ []
unfolding written_in
in-low k n h = rw (written_in, lt-ltb n 10 h)

-- else the digits of n / 10, and the last digit
in-high : (k n : ℕ) → 10 ≤ n → written_in (suc k) n ≡ written_in k (n / 10) ++ ((48 + n % 10) ∷ [])
unfolding written_in
in-high k n h = rw (written_in, le-ltb n 10 h)

-- below ten, or not
by_ten : (n : ℕ) {P : Type 0} → (n < 10 → P) → (10 ≤ n → P) → P
by_ten n f g = cases (ltb n 10) (λ e. f (ltb-true n 10 e)) (λ e. g (ltb-false n 10 e))

-- any bound above n gives the same digits
in-any : (k j n : ℕ) → n < k → n < j → written_in k n ≡ written_in j n
in-any zero j n h i = absurd (not-suc-le-zero h)
in-any (suc k) zero n h i = absurd (not-suc-le-zero i)
in-any (suc k) (suc j) n h i =
    by_ten n (λ l. rw (in-low k n l, in-low j n l))
    (λ g. rw (in-high k n g, in-high j n g, in-any k j (n / 10) (omega arith) (omega arith)))

-- a number below ten is written with one digit
pub written_low : (n : ℕ) → n < 10 → written n ≡ (48 + n) ∷ []
unfolding written
written_low n h = in-low n n h

-- any other with the digits of n / 10 and then the digit n % 10
pub written-high : (n : ℕ) → 10 ≤ n → written n ≡ written (n / 10) ++ ((48 + n % 10) ∷ [])
unfolding written
written-high n h = in-high n n h ∙ rw (in-any n (suc (n / 10)) (n / 10) (omega arith) (omega arith))

-- induction along the digits
pub by_digits : (P : ℕ → Type 0) → ((n : ℕ) → n < 10 → P n) → ((n : ℕ) → 10 ≤ n → P (n / 10) → P n) → (n : ℕ) → P n
by_digits P low high n = go (suc n) n (omega arith)
  where
    go : (k n : ℕ) → n < k → P n
    go zero n h = absurd (not-suc-le-zero h)
    go (suc k) n h = by_ten n (low n) (λ g. high n g (go k (n / 10) (omega arith)))

-- ---- they are a number with the value n

-- the digits of n have the value n
pub written-value : (n : ℕ) → value (written n) ≡ n
unfolding value_from
written-value =
    by_digits (λ n. value (written n) ≡ n)
    (λ n h. rw (written_low n h) (omega arith))
    (λ n h e. rw (written-high n h, value-append, e) (omega arith))

-- a number other than 0 with one more digit is a number
number_more : (s : List ℕ) (d : ℕ) → is_number s ≡ true → 1 ≤ value s → is_digit d ≡ true → is_number (s ++ (d ∷ [])) ≡ true
unfolding is_number all_digits value_from
number_more [] d e v g = g
number_more (b ∷ []) d e v g = rw (ne_eqb b 48 (λ p. omega arith), e, g)
number_more (b ∷ c ∷ s) d e v g =
    let h = both (not (eqb b 48)) (all_digits (b ∷ c ∷ s)) e in
    rw h.0 (digits_append (b ∷ c ∷ s) (d ∷ []) h.1 (rw g))

-- the digits of n are a number
pub written-number : (n : ℕ) → is_number (written n) ≡ true
unfolding is_number
written-number =
    by_digits (λ n. is_number (written n) ≡ true)
    (λ n h. rw (written_low n h) (digit-of n h))
    (λ n h e. rw (written-high n h) (number_more (written (n / 10)) (48 + n % 10) e (more n h) (digit-of (n % 10) (omega arith))))
  where
    more : (n : ℕ) → 10 ≤ n → 1 ≤ value (written (n / 10))
    more n h = omega (arith, written-value (n / 10))

-- so they are digits
pub written-digits : (n : ℕ) → all_digits (written n) ≡ true
written-digits n = number_digits (written n) (written-number n)

-- ---- and the only one

-- the digits of v and then the digit b
written-more : (v b : ℕ) → 1 ≤ v → 48 ≤ b → b ≤ 57 → written (v * 10 + (b - 48)) ≡ written v ++ (b ∷ [])
written-more v b h l g = written-high (v * 10 + (b - 48)) (omega arith) ∙ rw (quotient, last)
  where
    quotient : (v * 10 + (b - 48)) / 10 ≡ v
    quotient = omega arith

    last : 48 + (v * 10 + (b - 48)) % 10 ≡ b
    last = omega arith

-- the digits of a value that digits s follow are those of the value, and then s
written_from : (v : ℕ) (s : List ℕ) → 1 ≤ v → all_digits s ≡ true → written (value_from v s) ≡ written v ++ s
unfolding all_digits value_from
written_from v [] h e = sym (append-nil (written v))
written_from v (b ∷ s) h e =
    let (d, r) = both (is_digit b) (all_digits s) e in
    let (l, u) = digit-bounds b d in
    written_from (v * 10 + (b - 48)) s (omega arith) r ∙ rw (written-more v b h l u, append_assoc)

-- one digit is what its value is written as
written_one : (b : ℕ) → is_digit b ≡ true → written (value (b ∷ [])) ≡ b ∷ []
unfolding value_from
written_one b e =
    let h = digit-bounds b e in
    written_low (0 * 10 + (b - 48)) (omega arith) ∙ ap (λ d. d ∷ []) (omega arith)

-- a number is what its value is written as
pub written_of : (s : List ℕ) → is_number s ≡ true → written (value s) ≡ s
unfolding is_number all_digits value_from
written_of [] e = absurd (false≢true e)
written_of (b ∷ []) e = written_one b e
written_of (b ∷ c ∷ s) e =
    let (z, a) = both (not (eqb b 48)) (all_digits (b ∷ c ∷ s)) e in
    let (d, r) = both (is_digit b) (all_digits (c ∷ s)) a in
    let h = digit-bounds b d in
    let nz = eqb-false b 48 (not-true (eqb b 48) z) in
    written_from (0 * 10 + (b - 48)) (c ∷ s) (omega (arith, nz)) r ∙ ap (λ p. p ++ (c ∷ s)) (written_one b d)

-- ---- how many they are

-- there is a digit
pub written-some : (n : ℕ) → 1 ≤ length (written n)
written-some n = by_ten n (λ h. rw (written_low n h) (omega arith)) (λ h. rw (written-high n h, length-append) (omega arith))

-- a number below 10 ^ suc k has at most suc k digits
pub written-length : (k n : ℕ) → n < 10 ^ suc k → length (written n) ≤ suc k
written-length zero n h = rw (written_low n h) (omega arith)
written-length (suc k) n h =
    by_ten n (λ l. rw (written_low n l) (omega arith))
    (λ g. rw (written-high n g, length-append) (omega (arith, written-length k (n / 10) (omega (arith, pow-suc 10 (suc k))))))

-- a number from 10 ^ k on has more than k
pub written-longer : (k n : ℕ) → 10 ^ k ≤ n → suc k ≤ length (written n)
written-longer zero n h = written-some n
written-longer (suc k) n h =
    by_ten n (λ l. absurd (omega (arith, pow-suc 10 k, one-le-pow k 10 (omega arith))))
    (λ g. rw (written-high n g, length-append) (omega (arith, written-longer k (n / 10) (omega (arith, pow-suc 10 k)))))

-- so a number below 10 ^ k with at least k digits, k not 0, has k
pub written-exact : (k n : ℕ) → 1 ≤ k → k ≤ length (written n) → n < 10 ^ k → k ≡ length (written n)
written-exact zero n p h l = absurd (not-suc-le-zero p)
written-exact (suc k) n p h l = omega (arith, written-length k n l)

-- and a number from 10 ^ k on and below 10 ^ suc k has suc k
pub written-width : (k n : ℕ) → 10 ^ k ≤ n → n < 10 ^ suc k → suc k ≡ length (written n)
written-width k n l h = written-exact (suc k) n (omega arith) (written-longer k n l) h

-- a number from 100 on has two digits more than its hundreds
pub written-twos : (n : ℕ) → 100 ≤ n → length (written n) ≡ 2 + length (written (n / 100))
written-twos n h =
    let rest : n / 10 / 10 ≡ n / 100 = omega arith in
    omega (arith, one_more n (omega arith), one_more (n / 10) (omega arith), ap (λ m. length (written m)) rest)
  where
    one_more : (n : ℕ) → 10 ≤ n → length (written n) ≡ 1 + length (written (n / 10))
    one_more n h = rw (written-high n h, length-append) (omega arith)
