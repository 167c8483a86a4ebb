-- How long a line is, and the sum of lengths in a loop.
use Prim.Native.Nat.{ℕ, suc, ◌+◌, ◌*◌, ◌^◌, ◌≤◌, ◌<◌}
use mathlib.Core.Path.{◌≡◌, refl}
use mathlib.Core.List.{List, [], ◌∷◌, ◌++◌}
use native.Mathlib.Omega.{arith}
use lib.ListN.{length, length-append}
use Rattle.decimal.specs.Decimal.{written}
use Rattle.decimal.proofs.Written.{written-length}
use Rattle.text.specs.inner.Puts.{LengthOf}
use Rattle.text.specs.Keys.{line_feed}
use Rattle.text.specs.Texts.{line_text, number_text}

-- a line: its key and its value, and one
pub line-length : (key v : List ℕ) → length (line_text key v) ≡ length key + (length v + 1)
line-length key v = rw (length-append key (v ++ (line_feed ∷ [])), length-append v (line_feed ∷ []))

-- the line of a number below 10 ^ suc k
pub number-within : (key : List ℕ) (k n : ℕ) → n < 10 ^ suc k → length (number_text key n) ≤ length key + (suc k + 1)
number-within key k n h = rw (line-length key (written n)) (omega (arith, written-length k n h))

-- the length of a text and the most that it can be, as one fact
pub length-of : {text : List ℕ} {most n : ℕ} → (n ≡ length text) × (n ≤ most) → LengthOf text most n
length-of (e, l) = record { is_length = e; at_most = l }

-- what holds where a loop has added up the lengths of i parts of n, each of at most `most` bytes
pub record Added (i n : ℕ) (text : List ℕ) (most sum : ℕ) : Type 0 where
  pub within : i ≤ n
  pub sum_is : sum ≡ length text
  pub at_most : sum ≤ most * i

-- before the first
pub added-start : (n most : ℕ) → Added 0 n [] most 0
added-start n most = record { within = omega arith; sum_is = refl; at_most = omega arith }

-- one part more
pub added_next : {i n most sum w : ℕ} {x y z : List ℕ} → Added i n x most sum → i < n → z ≡ x ++ y → LengthOf y most w
    → Added (i + 1) n z most (sum + w)
added_next f h s l = record { within = omega arith; sum_is = rw (s, length-append) (omega arith); at_most = omega arith }
