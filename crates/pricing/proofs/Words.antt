-- How many lowest bits of two numbers are the same: laws of `bit`.
use Prim.Native.Nat.{ℕ, zero, suc, ◌+◌, ◌/◌, ◌%◌, ◌^◌, ◌≤◌, ◌<◌}
use mathlib.Core.Path.{◌≡◌, refl, sym, ◌∙◌}
use mathlib.Core.Bool.{not}
use native.Mathlib.Omega.{arith}
use native.Mathlib.Nat.{pow-suc, pow-succ', div-one, div-div-eq-div-mul}
use lib.Bits.{bit_xor, xor_shr, xor_mod}
use lib.Count.{count_trailing_zeros, under}
use lib.Dec.{eqb}
use lib.Pow.{shr-shr}
use Rattle.model.specs.Schedules.{bit}

-- the lowest bit, and the bits of the half
bit-first : (a : ℕ) → bit a 0 ≡ eqb (a % 2) 1
bit-first a = rw (div-one a)

bit-half : (a k : ℕ) → bit a (suc k) ≡ bit (a / 2) k
bit-half a k = rw (pow-succ' 2 k, ← div-div-eq-div-mul a 2 (2 ^ k))

-- the bits of a number shifted right
pub bit_shifted : (a j k : ℕ) → bit (a / 2 ^ j) k ≡ bit a (j + k)
bit_shifted a j k = rw (shr-shr a j k)

-- two numbers with an even exclusive or have the same lowest bit
same_first : (a b : ℕ) → bit_xor a b % 2 ≡ 0 → a % 2 ≡ b % 2
same_first a b e = go (a % 2) (b % 2) (omega arith) (omega arith) (sym (xor_mod a b 1) ∙ e)
  where
    go : (x y : ℕ) → x < 2 → y < 2 → bit_xor x y ≡ 0 → x ≡ y
    go zero y lx ly e = sym e
    go (suc zero) zero lx ly e = e
    go (suc zero) (suc zero) lx ly e = refl
    go (suc zero) (suc (suc y)) lx ly e = absurd (omega arith)
    go (suc (suc x)) y lx ly e = absurd (omega arith)

-- below the lowest set bit of the exclusive or, two numbers have the same bits
pub same-below : (d a b k : ℕ) → k < count_trailing_zeros d (bit_xor a b) → bit a k ≡ bit b k
unfolding count_trailing_zeros
same-below zero a b k lt = absurd (omega arith)
same-below (suc d) a b k lt = go (bit_xor a b % 2) refl k (same-below d (a / 2) (b / 2)) lt
  where
    go : (r : ℕ) → bit_xor a b % 2 ≡ r → (k : ℕ)
        → ((k : ℕ) → k < count_trailing_zeros d (bit_xor (a / 2) (b / 2)) → bit (a / 2) k ≡ bit (b / 2) k)
        → k < under r (count_trailing_zeros d (bit_xor a b / 2)) → bit a k ≡ bit b k
    go zero e zero higher lt = rw (bit-first a, bit-first b, same_first a b e)
    go zero e (suc k) higher lt =
        rw (bit-half a k, bit-half b k) (higher k (rw (← xor_shr a b 1) (omega arith)))
    go (suc r) e k higher lt = absurd (omega arith)

-- a number that is not 0 has its lowest set bit below its length
pub lowest-below : (d n m : ℕ) → 0 < n → n < 2 ^ m → m ≤ d → count_trailing_zeros d n < m
unfolding count_trailing_zeros
lowest-below d n zero pos lt le = absurd (omega arith)
lowest-below zero n (suc m) pos lt le = absurd (omega arith)
lowest-below (suc d) n (suc m) pos lt le = go (n % 2) refl (lowest-below d (n / 2) m)
  where
    go : (r : ℕ) → n % 2 ≡ r → (0 < n / 2 → n / 2 < 2 ^ m → m ≤ d → count_trailing_zeros d (n / 2) < m)
        → under r (count_trailing_zeros d (n / 2)) < suc m
    go zero e half = let l = half (omega arith) (omega (arith, pow-suc 2 m)) (omega arith) in omega arith
    go (suc r) e half = omega arith

-- two numbers with an odd exclusive or have other lowest bits
other-first : (a b r : ℕ) → bit_xor a b % 2 ≡ suc r → eqb (b % 2) 1 ≡ not (eqb (a % 2) 1)
other-first a b r e = go (a % 2) (b % 2) (omega arith) (omega arith) (sym (xor_mod a b 1) ∙ e)
  where
    go : (x y : ℕ) → x < 2 → y < 2 → bit_xor x y ≡ suc r → eqb y 1 ≡ not (eqb x 1)
    go zero zero lx ly e = absurd (omega arith)
    go zero (suc zero) lx ly e = refl
    go zero (suc (suc y)) lx ly e = absurd (omega arith)
    go (suc zero) zero lx ly e = refl
    go (suc zero) (suc zero) lx ly e = absurd (omega arith)
    go (suc zero) (suc (suc y)) lx ly e = absurd (omega arith)
    go (suc (suc x)) y lx ly e = absurd (omega arith)

-- at the lowest set bit of the exclusive or, one has what the other has not
pub other_at : (d a b : ℕ) → 0 < bit_xor a b → bit_xor a b < 2 ^ d
    → bit b (count_trailing_zeros d (bit_xor a b)) ≡ not (bit a (count_trailing_zeros d (bit_xor a b)))
unfolding count_trailing_zeros
other_at zero a b pos lt = absurd (omega arith)
other_at (suc d) a b pos lt = go (bit_xor a b % 2) refl (other_at d (a / 2) (b / 2))
  where
    go : (r : ℕ) → bit_xor a b % 2 ≡ r
        → (0 < bit_xor (a / 2) (b / 2) → bit_xor (a / 2) (b / 2) < 2 ^ d
        → bit (b / 2) (count_trailing_zeros d (bit_xor (a / 2) (b / 2)))
        ≡ not (bit (a / 2) (count_trailing_zeros d (bit_xor (a / 2) (b / 2)))))
        → bit b (under r (count_trailing_zeros d (bit_xor a b / 2))) ≡ not (bit a (under r (count_trailing_zeros d (bit_xor a b / 2))))
    go zero e half =
        let k = count_trailing_zeros d (bit_xor a b / 2) in
        rw (bit-half a k, bit-half b k)
        (rw (← xor_shr a b 1) at half (omega arith) (omega (arith, pow-suc 2 d)))
    go (suc r) e half = rw (bit-first a, bit-first b) (other-first a b r e)
