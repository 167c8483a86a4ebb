-- What is known of a list of bytes while a reader goes along it with the value of the digits passed, cut off above a bound hi.
use mathlib.Core.Path.{◌≡◌, refl, ap, ◌∙◌}
use mathlib.Core.Bool.{true, false, ◌&&◌}
use mathlib.Core.List.{List}
use Prim.Native.Nat.{ℕ, suc, ◌+◌, ◌*◌, ◌-◌, ◌≤◌, ◌<◌, min}
use native.Mathlib.Nat.{min-le_right}
use native.Mathlib.Numerals.{add-one}
use native.Mathlib.Omega.{arith}
use lib.ListN.{length, get_or, drop, drop_of_length-le}
use lib.Seq.{drop-cons}
use Rattle.std.specs.Prelude.{Ok, Err}
use Rattle.decimal.specs.declared.NumberError.TheVariants.{NotNumber, OutOfRange}
use Rattle.decimal.specs.Decimal.{is_digit, all_digits, value_from, value, is_number, reading_of}
use Rattle.decimal.proofs.Digits.{digit-is, value-cut}
use Rattle.decimal.proofs.Readings.{reading-none, reading-out, reading-within}

-- i bytes of s are passed and are digits, and v is their value, cut off at hi + 1
pub record Scanned (s : List ℕ) (hi v i : ℕ) : Type 0 where
  pub place : i ≤ length s
  pub small : v ≤ hi + 1
  pub same : min (value_from v (drop i s)) (hi + 1) ≡ min (value s) (hi + 1)
  pub rest : is_number s ≡ all_digits (drop i s)

-- before the first byte
pub scan-start : (s : List ℕ) (hi : ℕ) → is_number s ≡ all_digits s → Scanned s hi 0 0
scan-start s hi e = record { place = omega arith; small = omega arith; same = refl; rest = e }

-- what is left begins with the byte at i: whether it is all digits
left-digits : (s : List ℕ) (i : ℕ) → i < length s → all_digits (drop i s) ≡ (is_digit (get_or s i 0) && all_digits (drop (suc i) s))
unfolding all_digits
left-digits s i h = rw (drop-cons s i 0 h)

-- and the value that it leads to
left-value : (s : List ℕ) (v i : ℕ) → i < length s
    → value_from v (drop i s) ≡ value_from (v * 10 + (get_or s i 0 - 48)) (drop (suc i) s)
unfolding value_from
left-value s v i h = rw (drop-cons s i 0 h)

module _ (s : List ℕ) (hi v i : ℕ) (c : Scanned s hi v i) where
  -- past a digit
  pub scan_step : i < length s → 48 ≤ get_or s i 0 → get_or s i 0 ≤ 57
      → Scanned s hi (min (v * 10 + (get_or s i 0 - 48)) (hi + 1)) (i + 1)
  scan_step h l u =
      record {
        place = omega arith;
        small = min-le_right (v * 10 + (get_or s i 0 - 48)) (hi + 1);
        same = rw (add-one i, value-cut, ← left-value s v i h) c.same;
        rest = c.rest ∙ (left-digits s i h ∙ rw (digit-is (get_or s i 0) l u, add-one i));
      }

  -- at a byte that is no digit
  pub scan-stop : (lo : ℕ) → i < length s → is_digit (get_or s i 0) ≡ false → reading_of lo hi s ≡ Err NotNumber
  scan-stop lo h e = reading-none lo hi s (c.rest ∙ (left-digits s i h ∙ rw e))

  -- after the last byte: s is a number
  end-number : length s ≤ i → is_number s ≡ true
  unfolding all_digits
  end-number h = c.rest ∙ rw (drop_of_length-le s h)

  -- and v is its value, cut off
  end-value : length s ≤ i → min v (hi + 1) ≡ min (value s) (hi + 1)
  unfolding value_from
  end-value h = rw (drop_of_length-le s h) at c.same

  -- after the last byte, with v outside the bounds
  pub scan-out : (lo : ℕ) → length s ≤ i → (lo ≤ v → v ≤ hi → ⊥) → reading_of lo hi s ≡ Err OutOfRange
  scan-out lo h n =
      reading-out lo hi s (end-number h)
      (λ l u. let e : v ≡ value s = omega (arith, c.small, end-value h) in n (omega arith) (omega arith))

  -- after the last byte, with v within them
  pub scan-within : (lo : ℕ) → length s ≤ i → lo ≤ v → v ≤ hi → reading_of lo hi s ≡ Ok v
  scan-within lo h l u =
      let e : value s ≡ v = omega (arith, end-value h) in
      reading-within lo hi s (end-number h) (omega arith) (omega arith) ∙ ap Ok e
