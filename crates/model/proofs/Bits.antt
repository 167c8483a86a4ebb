-- Bits of a number: adding 2 ^ k where bit k is clear sets that bit and changes no lower one; a sum of distinct powers of two has the
-- bits that it is the sum of.
use Prim.Native.Nat.{ℕ, zero, suc, ◌+◌, ◌-◌, ◌*◌, ◌/◌, ◌%◌, ◌^◌, ◌≤◌, ◌<◌}
use mathlib.Core.Path.{◌≡◌, ◌∙◌}
use mathlib.Core.Logic.{⊎_elim}
use mathlib.Core.Bool.{Bool, true, false, cond}
use native.Mathlib.Omega.{arith}
use native.Mathlib.Nat.{div-eq_of_lt, add-div_right, add-mul-div_right, add-mul-mod_self_right, pow-suc, add-zero}
use lib.Pow.{pow_pos, pow-add}
use borrow.Author.Tests.{eqb-false, eq-eqb}
use Rattle.model.specs.Sums.{sum}
use Rattle.model.specs.Schedules.{bit}
use Rattle.model.proofs.Sums.{last-or-below}

-- a number below 2 ^ k has bit k clear
pub bit-beyond : (x k : ℕ) → x < 2 ^ k → bit x k ≡ false
bit-beyond x k lt = rw (div-eq_of_lt lt)

-- adding 2 ^ k where bit k is clear sets it
pub bit-same : (x k : ℕ) → bit x k ≡ false → bit (x + 2 ^ k) k ≡ true
bit-same x k clear =
    let ne = eqb-false (x / 2 ^ k % 2) 1 clear in
    eq-eqb ((x + 2 ^ k) / 2 ^ k % 2) 1 (omega (arith, add-div_right x (pow_pos k)))

-- adding 2 ^ k changes no lower bit
pub bit-lower : (x k j : ℕ) → j < k → bit (x + 2 ^ k) j ≡ bit x j
bit-lower x k j lt =
    let m = k - suc j in
    let exponent : k ≡ m + suc j = omega arith in
    let power : 2 ^ (m + suc j) ≡ 2 ^ m * 2 * 2 ^ j = rw (pow-add 2 m (suc j), pow-suc 2 j) (omega arith) in
    rw (exponent, power, add-mul-div_right x (2 ^ m * 2) (pow_pos j), add-mul-mod_self_right (x / 2 ^ j) (2 ^ m) 2)

-- the number with the bits b 0, .., b (n - 1)
abbrev pub of_bits : ℕ → (ℕ → Bool) → ℕ
of_bits n b = sum n (λ k. cond (b k) (2 ^ k) 0)

pub of_bits-below : (n : ℕ) (b : ℕ → Bool) → of_bits n b < 2 ^ n
unfolding sum
of_bits-below zero b = omega arith
of_bits-below (suc n) b = omega (arith, pow-suc 2 n, of_bits-below n b, within (b n))
  where
    within : (c : Bool) → cond c (2 ^ n) 0 ≤ 2 ^ n
    within true = omega arith
    within false = omega arith

pub bit-of_bits : (n : ℕ) (b : ℕ → Bool) (k : ℕ) → k < n → bit (of_bits n b) k ≡ b k
unfolding sum
bit-of_bits zero b k lt = absurd (omega arith)
bit-of_bits (suc n) b k lt =
    ⊎_elim (λ e. rw e (top (b n))) (λ l. rest (b n) l ∙ bit-of_bits n b k l) (last-or-below n k lt)
  where
    clear : bit (of_bits n b) n ≡ false
    clear = bit-beyond (of_bits n b) n (of_bits-below n b)

    top : (c : Bool) → bit (of_bits n b + cond c (2 ^ n) 0) n ≡ c
    top true = bit-same (of_bits n b) n clear
    top false = rw (add-zero (of_bits n b)) clear

    rest : (c : Bool) → k < n → bit (of_bits n b + cond c (2 ^ n) 0) k ≡ bit (of_bits n b) k
    rest true l = bit-lower (of_bits n b) n k l
    rest false l = rw (add-zero (of_bits n b))
