-- What is known of a list of bytes while a reader goes along the digits at its front: those passed are a number with no leading zero.
use mathlib.Core.Path.{◌≡◌, sym, ◌∙◌}
use mathlib.Core.Bool.{true}
use mathlib.Core.List.{List, [], ◌∷◌}
use Prim.Native.Nat.{ℕ, ◌+◌, ◌*◌, ◌-◌, ◌^◌, ◌≤◌, ◌<◌}
use native.Mathlib.Nat.{pow-suc, pow-le-pow_right}
use native.Mathlib.Numerals.{add-one}
use native.Mathlib.Omega.{arith}
use borrow.Author.Tests.{ne_eqb}
use lib.ListN.{length, get_or, take}
use lib.Seq.{take-suc, length-take-le, get_or-take}
use Rattle.decimal.specs.Decimal.{is_digit, all_digits, value_from, value, is_number}
use Rattle.decimal.specs.inner.FrontNumber.{FrontNumber}
use Rattle.decimal.proofs.Digits.{both, digit-bounds, digits_append, value-append}

-- i bytes at the front of s are digits, the first is not 48, and v is their value
pub record Led (s : List ℕ) (v i : ℕ) : Type 0 where
  pub some : 1 ≤ i
  pub within : i ≤ 4
  pub whole : 4 ≤ length s
  pub lead : get_or s 0 0 ≡ 48 → ⊥
  pub digits : all_digits (take i s) ≡ true
  pub small : v < 10 ^ i
  pub amount : v ≡ value (take i s)

-- one digit
one-digit : (b : ℕ) → is_digit b ≡ true → all_digits (b ∷ []) ≡ true
unfolding all_digits
one-digit b e = rw e

-- after the first digit
pub led-start : (s : List ℕ) → 4 ≤ length s → is_digit (get_or s 0 0) ≡ true → (get_or s 0 0 ≡ 48 → ⊥) → Led s (get_or s 0 0 - 48) 1
unfolding value_from
led-start [] h e n = absurd (omega arith)
led-start (b ∷ s) h e n =
    let (l, u) = digit-bounds b e in
    record {
      some = omega arith;
      within = omega arith;
      whole = h;
      lead = n;
      digits = one-digit b e;
      small = omega arith;
      amount = omega arith;
    }

-- a list of digits that does not begin with 48 is a number
leads : (s : List ℕ) → 1 ≤ length s → (get_or s 0 0 ≡ 48 → ⊥) → all_digits s ≡ true → is_number s ≡ true
unfolding is_number all_digits
leads [] h n e = absurd (omega arith)
leads (b ∷ []) h n e = (both (is_digit b) true e).0
leads (b ∷ c ∷ s) h n e = rw (ne_eqb b 48 n) e

module _ (s : List ℕ) (v i : ℕ) (c : Led s v i) where
  -- past a digit more
  pub led-step : i < 4 → is_digit (get_or s i 0) ≡ true → Led s (v * 10 + (get_or s i 0 - 48)) (i + 1)
  unfolding value_from
  led-step h e =
      let (l, u) = digit-bounds (get_or s i 0) e in
      let t = take-suc s i 0 (omega (arith, c.whole)) in
      record {
        some = omega arith;
        within = omega arith;
        whole = c.whole;
        lead = c.lead;
        digits = rw (add-one i, t) (digits_append (take i s) (get_or s i 0 ∷ []) c.digits (one-digit (get_or s i 0) e));
        small = rw (add-one i, pow-suc 10 i) (omega (arith, c.small));
        amount = rw (add-one i, t, value-append 0 (take i s) (get_or s i 0 ∷ []), ← c.amount);
      }

  -- there is room for a digit more
  pub led-room : i < 4 → v < 1000
  led-room h = omega (arith, c.small, pow-le-pow_right {n = 10} (omega arith) {i = i} {j = 3} (omega arith))

  -- what is passed is a number
  led-number : is_number (take i s) ≡ true
  led-number =
      leads (take i s) (omega (arith, c.some, length-take-le i s (omega (arith, c.within, c.whole))))
      (λ e. c.lead (sym (get_or-take i s 0 0 (omega (arith, c.some))) ∙ e))
      c.digits

  -- what the reader then gives
  pub led-gives : FrontNumber s (record { length = i; value = v })
  led-gives = record { within = omega (arith, c.within, c.whole); number = led-number; value_is = c.amount }

  -- at the fourth
  pub led-end : 4 ≤ i → FrontNumber s (record { length = 4; value = v })
  led-end h = let e : i ≡ 4 = omega (arith, c.within) in rw e at led-gives

-- a 48 at the front is a number by itself, of the value 0
pub zero_number : (s : List ℕ) → 4 ≤ length s → get_or s 0 0 ≡ 48 → FrontNumber s (record { length = 1; value = 0 })
unfolding is_number value_from
zero_number [] h e = absurd (omega arith)
zero_number (b ∷ s) h e = record { within = omega arith; number = rw e; value_is = rw e }
