-- The value of a hexadecimal digit by the range in which the byte lies.
use Prim.Native.Nat.{ℕ, ◌-◌, ◌≤◌, ◌<◌}
use mathlib.Core.Path.{◌≡◌, refl}
use mathlib.Core.Bool.{Bool, true, false, ◌&&◌}
use native.Mathlib.Omega.{arith}
use borrow.Author.Tests.{le-leb, lt-leb, leb-true}
use lib.Dec.{leb}
use Rattle.din.specs.Lines.{between, digit_of}

module _ (lo hi b : ℕ) where
  pub within : lo ≤ b → b ≤ hi → between lo hi b ≡ true
  within p q = rw (le-leb lo b p, le-leb b hi q) refl

  pub below : b < lo → between lo hi b ≡ false
  below p = rw (lt-leb lo b p) refl

  pub above : lo ≤ b → hi < b → between lo hi b ≡ false
  above p q = rw (le-leb lo b p, lt-leb b hi q) refl

  pub outside : (lo ≤ b → b ≤ hi → ⊥) → between lo hi b ≡ false
  outside out = go (leb lo b) refl (leb b hi) refl
    where
      go : (t : Bool) → leb lo b ≡ t → (u : Bool) → leb b hi ≡ u → (t && u) ≡ false
      go true p true q = absurd (out (leb-true lo b p) (leb-true b hi q))
      go true p false q = refl
      go false p u q = refl

module _ (b : ℕ) where
  pub decimal_digit : 48 ≤ b → b ≤ 57 → b - 48 ≡ digit_of b
  unfolding digit_of
  decimal_digit p q = rw (within 48 57 b p q) refl

  pub upper-digit : 65 ≤ b → b ≤ 70 → b - 55 ≡ digit_of b
  unfolding digit_of
  upper-digit p q = rw (above 48 57 b (omega arith) (omega arith), within 65 70 b p q) refl

  pub lower-digit : 97 ≤ b → b ≤ 102 → b - 87 ≡ digit_of b
  unfolding digit_of
  lower-digit p q = rw (above 48 57 b (omega arith) (omega arith), above 65 70 b (omega arith) (omega arith), within 97 102 b p q) refl

  pub no_digit : (48 ≤ b → b ≤ 57 → ⊥) → (65 ≤ b → b ≤ 70 → ⊥) → (97 ≤ b → b ≤ 102 → ⊥) → 16 ≡ digit_of b
  unfolding digit_of
  no_digit p q r = rw (outside 48 57 b p, outside 65 70 b q, outside 97 102 b r) refl
