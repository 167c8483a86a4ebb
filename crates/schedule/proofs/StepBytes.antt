-- The bytes of a step as the bits of 256 segments, and what changing one segment makes of them.
use Prim.Native.Nat.{ℕ, zero, suc, ◌+◌, ◌-◌, ◌*◌, ◌/◌, ◌%◌, ◌^◌, ◌<◌}
use mathlib.Core.Path.{◌≡◌, refl, sym, ◌∙◌}
use mathlib.Core.Logic.{⊎_elim}
use mathlib.Core.Bool.{Bool, true, false, cond}
use mathlib.Core.List.{List}
use native.Mathlib.Omega.{arith}
use native.Mathlib.Nat.{pow-suc}
use lib.Bits.{bit_and, and_mask, and_high, and_zero_l, and_zero_r}
use lib.Dec.{eqb}
use lib.ListN.{length, get_or, replicate}
use lib.Pow.{pow-lt}
use borrow.Author.Tests.{eqb-true, eqb-false, eq-eqb, ne_eqb}
use Rattle.model.specs.Sums.{sum, tabulate}
use Rattle.model.specs.Schedules.{bit}
use Rattle.model.proofs.Sums.{sum-eq, term-le, last-or-below}
use Rattle.model.proofs.Tables.{length-tabulate, get_or-tabulate, tabulate-eq}
use Rattle.model.proofs.Bits.{of_bits, bit-of_bits}
use Rattle.schedule.specs.inner.Writing.{mask_byte, masked, step_with}

-- sums whose terms differ at k only differ by these two terms
sum-change : (n k : ℕ) (f g : ℕ → ℕ) → k < n → ((j : ℕ) → j < n → (j ≡ k → ⊥) → f j ≡ g j) → sum n f + g k ≡ sum n g + f k
unfolding sum
sum-change zero k f g lt same = absurd (omega arith)
sum-change (suc n) k f g lt same =
    ⊎_elim last (λ l. below l (sum-change n k f g l (λ j m. same j (omega arith)))) (last-or-below n k lt)
  where
    last : k ≡ n → sum n f + f n + g k ≡ sum n g + g n + f k
    last e = rw e (omega (arith, sum-eq n f g (λ j l. same j (omega arith) (λ s. omega arith))))

    below : k < n → sum n f + g k ≡ sum n g + f k → sum n f + f n + g k ≡ sum n g + g n + f k
    below l before = omega (arith, same n (omega arith) (λ s. omega arith))

-- of a byte, the bit k that a mask with bit k leaves
and-power : (x k : ℕ) → bit_and x (2 ^ k) ≡ cond (bit x k) (2 ^ k) 0
and-power x k =
    let next : 1 + k ≡ suc k = omega arith in
    let power : 2 ^ (1 + k) - 2 ^ k ≡ 2 ^ k = rw (next, pow-suc 2 k) (omega arith) in
    (rw power at (and_high x 1 k)) ∙ go (bit x k) refl
  where
    go : (b : Bool) → bit x k ≡ b → x / 2 ^ k % 2 * 2 ^ k ≡ cond b (2 ^ k) 0
    go true e = rw (eqb-true (x / 2 ^ k % 2) 1 e) (omega arith)
    go false e =
        let ne = eqb-false (x / 2 ^ k % 2) 1 e in
        let none : x / 2 ^ k % 2 ≡ 0 = omega arith in
        rw none (omega arith)

-- all bits, or none
and-all : (m : ℕ) (on : Bool) → m < 256 → bit_and m (cond on 255 0) ≡ cond on m 0
and-all m true lt = and_mask m 8 ∙ omega arith
and-all m false lt = and_zero_r m

-- the bytes of a step in which those segments are held of which f says so
unfoldable pub bytes_of : (ℕ → Bool) → List ℕ
bytes_of f = tabulate 32 (λ j. of_bits 8 (λ k. f (8 * j + k)))

pub length-bytes_of : (f : ℕ → Bool) → length (bytes_of f) ≡ 32
unfolding bytes_of
length-bytes_of f = length-tabulate 32 (λ j. of_bits 8 (λ k. f (8 * j + k)))

pub bytes_of-at : (f : ℕ → Bool) (j : ℕ) → j < 32 → get_or (bytes_of f) j 0 ≡ of_bits 8 (λ k. f (8 * j + k))
unfolding bytes_of
bytes_of-at f j lt = get_or-tabulate 32 (λ j. of_bits 8 (λ k. f (8 * j + k))) j 0 lt

-- f with another answer at i
abbrev pub change : (ℕ → Bool) → ℕ → Bool → ℕ → Bool
change f i on n = cond (eqb i n) on (f n)

power_below : (k : ℕ) → k < 8 → 2 ^ k < 256
power_below k lt = pow-lt lt

-- one byte, masked by that of segment i alone
pub masked-byte : (f : ℕ → Bool) (i j : ℕ) (on : Bool)
    → masked (of_bits 8 (λ k. f (8 * j + k))) (mask_byte i j) (cond on 255 0) ≡ of_bits 8 (λ k. change f i on (8 * j + k))
unfolding masked mask_byte
masked-byte f i j on = go (eqb (i / 8) j) refl
  where
    old : ℕ → ℕ
    old k = cond (f (8 * j + k)) (2 ^ k) 0

    new : ℕ → ℕ
    new k = cond (change f i on (8 * j + k)) (2 ^ k) 0

    other : (k : ℕ) → (i ≡ 8 * j + k → ⊥) → old k ≡ new k
    other k ne = rw (ne_eqb i (8 * j + k) ne)

    go : (b : Bool) → eqb (i / 8) j ≡ b
        → sum 8 old - bit_and (sum 8 old) (cond b (2 ^ (i % 8)) 0) + bit_and (cond b (2 ^ (i % 8)) 0) (cond on 255 0) ≡ sum 8 new
    go true e =
        let same = eqb-true (i / 8) j e in
        let here : 8 * j + i % 8 ≡ i = omega arith in
        let left : bit_and (sum 8 old) (2 ^ (i % 8)) ≡ old (i % 8) =
        and-power (sum 8 old) (i % 8) ∙ rw (bit-of_bits 8 (λ k. f (8 * j + k)) (i % 8) (omega arith))
        in
        let right : bit_and (2 ^ (i % 8)) (cond on 255 0) ≡ new (i % 8) =
        and-all (2 ^ (i % 8)) on (power_below (i % 8) (omega arith)) ∙ rw (eq-eqb i (8 * j + i % 8) (sym here))
        in
        rw (left, right)
        (omega (
          arith,
          sum-change 8 (i % 8) old new (omega arith) (λ k l ne. other k (λ s. ne (omega arith))),
          term-le 8 (i % 8) old (omega arith),
        ))
    go false e =
        let apart = eqb-false (i / 8) j e in
        rw (and_zero_r (sum 8 old), and_zero_l (cond on 255 0))
        (omega (arith, sum-eq 8 old new (λ k l. other k (λ s. apart (omega arith)))))

-- changing one segment of a step
pub step_with-bytes_of : (f : ℕ → Bool) (i : ℕ) (on : Bool) → step_with (bytes_of f) i (cond on 255 0) ≡ bytes_of (change f i on)
unfolding step_with bytes_of
step_with-bytes_of f i on =
    tabulate-eq 32 (λ j. masked (get_or (bytes_of f) j 0) (mask_byte i j) (cond on 255 0)) (λ j. of_bits 8 (λ k. change f i on (8 * j + k)))
    (λ j lt. rw (bytes_of-at f j lt) (masked-byte f i j on))

-- steps in which the same segments are held
pub bytes_of-eq : (f g : ℕ → Bool) → ((i : ℕ) → i < 256 → f i ≡ g i) → bytes_of f ≡ bytes_of g
unfolding bytes_of
bytes_of-eq f g same =
    tabulate-eq 32 (λ j. of_bits 8 (λ k. f (8 * j + k))) (λ j. of_bits 8 (λ k. g (8 * j + k)))
    (λ j lt. sum-eq 8 (λ k. cond (f (8 * j + k)) (2 ^ k) 0) (λ k. cond (g (8 * j + k)) (2 ^ k) 0)
    (λ k l. rw (same (8 * j + k) (omega arith))))

-- no segment is held
pub bytes_of-none : (f : ℕ → Bool) → ((i : ℕ) → i < 256 → f i ≡ false) → bytes_of f ≡ replicate 32 0
unfolding bytes_of tabulate sum
bytes_of-none f none = bytes_of-eq f (λ i. false) none

-- a step with one segment changed has 32 bytes, each masked by that of the segment alone
pub length-step_with : (step : List ℕ) (i on : ℕ) → length (step_with step i on) ≡ 32
unfolding step_with
length-step_with step i on = length-tabulate 32 (λ j. masked (get_or step j 0) (mask_byte i j) on)

pub step_with-at : (step : List ℕ) (i on j : ℕ) → j < 32 → get_or (step_with step i on) j 0 ≡ masked (get_or step j 0) (mask_byte i j) on
unfolding step_with
step_with-at step i on j lt = get_or-tabulate 32 (λ j. masked (get_or step j 0) (mask_byte i j) on) j 0 lt
