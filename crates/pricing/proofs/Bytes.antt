-- Bits of a number made of bytes: laws of `bit`.
use Prim.Native.Nat.{ℕ, zero, suc, ◌+◌, ◌-◌, ◌*◌, ◌/◌, ◌%◌, ◌^◌, ◌<◌}
use mathlib.Core.Path.{◌≡◌, refl, ap, sym, ◌∙◌}
use mathlib.Core.Bool.{Bool, true, false}
use native.Mathlib.Omega.{arith}
use native.Mathlib.Nat.{add-zero, add-mul-div_right, add-mul-mod_self_right, pow-suc}
use lib.Dec.{ltb}
use lib.Pow.{pow_pos, pow-add, shr-shr}
use borrow.Author.Tests.{ltb-true, ltb-false}
use Rattle.model.specs.Schedules.{bit}

-- bits 0 to 7 of b + 256 × w are those of b
bit-low : (b w k : ℕ) → k < 8 → bit (b + 256 * w) k ≡ bit b k
bit-low b w k lt =
    let m = 8 - suc k in
    let exponent : m + suc k ≡ 8 = omega arith in
    let power : 256 ≡ 2 ^ m * 2 * 2 ^ k = sym (sym (rw (pow-add 2 m (suc k), pow-suc 2 k) (omega arith)) ∙ ap (λ n. 2 ^ n) exponent) in
    let product : 256 * w ≡ w * 2 ^ m * 2 * 2 ^ k = ap (λ n. n * w) power ∙ omega arith in
    rw (product, add-mul-div_right b (w * 2 ^ m * 2) (pow_pos k), add-mul-mod_self_right (b / 2 ^ k) (w * 2 ^ m) 2)

-- the bits from 8 on are those of w, where b is a byte
bit_high : (b w k : ℕ) → b < 256 → bit (b + 256 * w) (8 + k) ≡ bit w k
bit_high b w k lt =
    let rest : (b + 256 * w) / 2 ^ 8 ≡ w = omega arith in
    rw (← shr-shr (b + 256 * w) 8 k, rest)

-- the bytes f 0, .., f (n - 1) as one number, the first the lowest
unfoldable pub of_bytes : ℕ → (ℕ → ℕ) → ℕ
of_bytes zero f = 0
of_bytes (suc n) f = f 0 + 256 * of_bytes n (λ j. f (suc j))

-- bit k of it is bit k % 8 of byte k / 8
pub bit-of_bytes : (n : ℕ) (f : ℕ → ℕ) → ((j : ℕ) → f j < 256) → (k : ℕ) → k < 8 * n → bit (of_bytes n f) k ≡ bit (f (k / 8)) (k % 8)
unfolding of_bytes
bit-of_bytes zero f bytes k lt = absurd (omega arith)
bit-of_bytes (suc n) f bytes k lt = go (ltb k 8) refl (bit-of_bytes n (λ j. f (suc j)) (λ j. bytes (suc j)) (k - 8))
  where
    rest : ℕ
    rest = of_bytes n (λ j. f (suc j))

    go : (b : Bool) → ltb k 8 ≡ b → (k - 8 < 8 * n → bit rest (k - 8) ≡ bit (f (suc ((k - 8) / 8))) ((k - 8) % 8))
        → bit (f 0 + 256 * rest) k ≡ bit (f (k / 8)) (k % 8)
    go true e higher =
        let l = ltb-true k 8 e in
        let first : k / 8 ≡ 0 = omega arith in
        let same : k % 8 ≡ k = omega arith in
        rw (first, same) (bit-low (f 0) rest k l)
    go false e higher =
        let l = ltb-false k 8 e in
        let place : 8 + (k - 8) ≡ k = omega arith in
        let byte : suc ((k - 8) / 8) ≡ k / 8 = omega arith in
        let same : (k - 8) % 8 ≡ k % 8 = omega arith in
        sym (ap (bit (f 0 + 256 * rest)) place) ∙ bit_high (f 0) rest (k - 8) (bytes 0) ∙ higher (omega arith) ∙ rw (byte, same)

-- eight bytes in a row, the first the lowest
pub eight-bytes : (f : ℕ → ℕ) (at : ℕ)
    → of_bytes 8 (λ j. f (at + j))
    ≡ f at + f (at + 1) * 256 + f (at + 2) * 65536 + f (at + 3) * 16777216 + f (at + 4) * 4294967296 + f (at + 5) * 1099511627776
    + f (at + 6) * 281474976710656 + f (at + 7) * 72057594037927936
unfolding of_bytes
eight-bytes f at = rw (add-zero at) (omega arith)
