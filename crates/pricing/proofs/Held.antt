-- What is held by the start set and by the bytes of a step, and 64 segments of it as one number.
use Prim.Native.Nat.{ℕ, zero, suc, ◌+◌, ◌-◌, ◌*◌, ◌/◌, ◌%◌, ◌≤◌, ◌<◌}
use mathlib.Core.Path.{◌≡◌, refl, ◌∙◌}
use mathlib.Core.List.{List, [], ◌∷◌}
use native.Mathlib.Omega.{arith}
use lib.ListN.{get_or}
use Rattle.model.specs.Schedules.{bit}
use Rattle.pricing.specs.inner.Held.{start_bit, held_of}

module _ (start p : List ℕ) where
  -- before step 1 the start set is held; in a later step what its 32 bytes say
  pub held_start : (t i : ℕ) → t ≡ 0 → held_of start p t i ≡ start_bit start i
  unfolding held_of
  held_start t i e = rw e refl

  pub held-byte : (t i : ℕ) → (t ≡ 0 → ⊥) → held_of start p t i ≡ bit (get_or p (32 * (t - 1) + i / 8) 0) (i % 8)
  unfolding held_of
  held-byte zero i ne = absurd (ne refl)
  held-byte (suc t) i ne = let before : suc t - 1 ≡ t = omega arith in rw before

  -- the same for the segments 64 × m to 64 × m + 63
  pub word-start : (t m k : ℕ) → k < 64 → t ≡ 0 → held_of start p t (64 * m + k) ≡ bit (get_or start m 0) k
  word-start t m k lt e =
      let place : (64 * m + k) / 64 ≡ m = omega arith in
      let number : (64 * m + k) % 64 ≡ k = omega arith in
      held_start t (64 * m + k) e ∙ rw (place, number)

  pub held_word : (t m k : ℕ) → (t ≡ 0 → ⊥) → held_of start p t (64 * m + k) ≡ bit (get_or p (32 * (t - 1) + 8 * m + k / 8) 0) (k % 8)
  held_word t m k ne =
      let place : 32 * (t - 1) + (64 * m + k) / 8 ≡ 32 * (t - 1) + 8 * m + k / 8 = omega arith in
      let number : (64 * m + k) % 8 ≡ k % 8 = omega arith in
      held-byte t (64 * m + k) ne ∙ rw (place, number)

-- w has the bits of the eight bytes of s from the place at on
abbrev pub Eight : List ℕ → ℕ → ℕ → Type 0
Eight s at w = (k : ℕ) → k < 64 → bit w k ≡ bit (get_or s (at + k / 8) 0) (k % 8)

-- four such numbers have the bits of 32 bytes
pub words-bits : (s : List ℕ) (a b c d : ℕ) → Eight s 0 a → Eight s 8 b → Eight s 16 c → Eight s 24 d → (i : ℕ) → i < 256
    → start_bit (a ∷ b ∷ c ∷ d ∷ []) i ≡ bit (get_or s (i / 8) 0) (i % 8)
words-bits s a b c d ea eb ec ed i lt = go (i / 64) refl
  where
    at : (x n : ℕ) → 64 * n ≤ i → i < 64 * n + 64 → Eight s (8 * n) x → bit x (i % 64) ≡ bit (get_or s (i / 8) 0) (i % 8)
    at x n from below eight =
        let place : 8 * n + i % 64 / 8 ≡ i / 8 = omega arith in
        let number : i % 64 % 8 ≡ i % 8 = omega arith in
        eight (i % 64) (omega arith) ∙ rw (place, number)

    go : (m : ℕ) → i / 64 ≡ m → bit (get_or (a ∷ b ∷ c ∷ d ∷ []) m 0) (i % 64) ≡ bit (get_or s (i / 8) 0) (i % 8)
    go zero e = at a 0 (omega arith) (omega arith) ea
    go (suc zero) e = at b 1 (omega arith) (omega arith) eb
    go (suc (suc zero)) e = at c 2 (omega arith) (omega arith) ec
    go (suc (suc (suc zero))) e = at d 3 (omega arith) (omega arith) ed
    go (suc (suc (suc (suc m)))) e = absurd (omega arith)
