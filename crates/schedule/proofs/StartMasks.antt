-- The bytes of the segments that are held before step 1: their bits, and the loop that sets them.
use Prim.Native.Nat.{ℕ, suc, ◌+◌, ◌*◌, ◌/◌, ◌%◌, ◌^◌, ◌≤◌, ◌<◌}
use mathlib.Core.Path.{◌≡◌, refl, sym, ap, ◌∙◌}
use mathlib.Core.Bool.{Bool, true, cond}
use mathlib.Core.List.{List, []}
use native.Mathlib.Omega.{arith}
use lib.ListN.{length, get_or, set, take, replicate}
use lib.Dec.{eqb}
use lib.Seq.{take-suc}
use borrow.Author.Tests.{eq-eqb, ne_eqb}
use Rattle.model.specs.Schedules.{bit}
use Rattle.model.specs.Sheets.{listed}
use Rattle.model.proofs.Bits.{of_bits, bit-of_bits}
use Rattle.model.proofs.LastTouches.{listed-none, listed_more}
use Rattle.model.proofs.Sums.{sum-eq}
use Rattle.model.proofs.Tables.{tabulate-set}
use Rattle.schedule.specs.inner.Starting.{start_mask}
use Rattle.schedule.specs.inner.Writing.{mask_byte, masked}
use Rattle.schedule.proofs.StepBytes.{bytes_of, bytes_of-at, bytes_of-eq, bytes_of-none, change, masked-byte}

-- they are the bytes of a step
mask-bytes : (warm : List ℕ) → start_mask warm ≡ bytes_of (listed warm)
unfolding start_mask bytes_of
mask-bytes warm = refl

-- bit i tells whether segment i is warm
pub start_mask-bit : (warm : List ℕ) (i : ℕ) → i < 256 → bit (get_or (start_mask warm) (i / 8) 0) (i % 8) ≡ listed warm i
start_mask-bit warm i lt =
    let place : 8 * (i / 8) + i % 8 ≡ i = omega arith in
    ap (λ l. bit (get_or l (i / 8) 0) (i % 8)) (mask-bytes warm)
    ∙ rw (bytes_of-at (listed warm) (i / 8) (omega arith))
    (bit-of_bits 8 (λ k. listed warm (8 * (i / 8) + k)) (i % 8) (omega arith) ∙ ap (listed warm) place)

pub start_mask-none : replicate 32 0 ≡ start_mask []
start_mask-none = sym (mask-bytes [] ∙ bytes_of-none (listed []) (λ i l. listed-none i))

-- one segment more is held: one byte changes
set-segment : (f : ℕ → Bool) (i x : ℕ) → i < 256 → x ≡ masked (get_or (bytes_of f) (i / 8) 0) (2 ^ (i % 8)) 255
    → set (bytes_of f) (i / 8) x ≡ bytes_of (change f i true)
unfolding bytes_of mask_byte
set-segment f i x lt e =
    ap (λ (y : ℕ). set (bytes_of f) (i / 8) y) here
    ∙ tabulate-set 32 (λ j. of_bits 8 (λ k. f (8 * j + k))) (λ j. of_bits 8 (λ k. change f i true (8 * j + k))) (i / 8) (omega arith) others
  where
    here : x ≡ of_bits 8 (λ k. change f i true (8 * (i / 8) + k))
    here =
        e
        ∙ rw (bytes_of-at f (i / 8) (omega arith))
        (rw (eq-eqb (i / 8) (i / 8) refl) at (masked-byte f i (i / 8) true))

    others : (j : ℕ) → j < 32 → (j ≡ i / 8 → ⊥) → of_bits 8 (λ k. change f i true (8 * j + k)) ≡ of_bits 8 (λ k. f (8 * j + k))
    others j lj ne =
        sum-eq 8 (λ k. cond (change f i true (8 * j + k)) (2 ^ k) 0) (λ k. cond (f (8 * j + k)) (2 ^ k) 0)
        (λ k l. rw (ne_eqb i (8 * j + k) (λ same. ne (omega arith))))

-- the mask of the warm segments, filled one by one: one more, and one that has no place in it
module _ (xs : List ℕ) (n : ℕ) (lt : n < length xs) where
  more : (i : ℕ) → listed (take (suc n) xs) i ≡ cond (eqb (get_or xs n 0) i) true (listed (take n xs) i)
  more i = rw (take-suc xs n 0 lt) (listed_more (take n xs) (get_or xs n 0) i)

  pub start_mask-more : (x : ℕ) → get_or xs n 0 < 256
      → x ≡ masked (get_or (start_mask (take n xs)) (get_or xs n 0 / 8) 0) (2 ^ (get_or xs n 0 % 8)) 255
      → set (start_mask (take n xs)) (get_or xs n 0 / 8) x ≡ start_mask (take (suc n) xs)
  start_mask-more x few e =
      rw (mask-bytes (take n xs), mask-bytes (take (suc n) xs))
      (set-segment (listed (take n xs)) (get_or xs n 0) x few (e ∙ rw (mask-bytes (take n xs)))
      ∙ bytes_of-eq (change (listed (take n xs)) (get_or xs n 0) true) (listed (take (suc n) xs)) (λ i l. sym (more i)))

  pub start_mask-beyond : 256 ≤ get_or xs n 0 → start_mask (take n xs) ≡ start_mask (take (suc n) xs)
  start_mask-beyond many =
      rw (mask-bytes (take n xs), mask-bytes (take (suc n) xs))
      (bytes_of-eq (listed (take n xs)) (listed (take (suc n) xs))
      (λ i l. sym (more i ∙ rw (ne_eqb (get_or xs n 0) i (λ same. omega arith)))))
