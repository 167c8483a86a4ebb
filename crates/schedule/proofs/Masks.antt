-- The table of masks, which has for each segment the bytes of a step that holds this one alone, and the loop that fills it.
use Prim.Native.Nat.{ℕ, suc, ◌+◌, ◌*◌, ◌/◌, ◌%◌, ◌^◌, ◌≤◌, ◌<◌}
use mathlib.Core.Path.{◌≡◌, refl, sym, ◌∙◌}
use mathlib.Core.Bool.{Bool, true, false, cond}
use mathlib.Core.List.{List}
use native.Mathlib.Omega.{arith}
use lib.Dec.{eqb, ltb}
use lib.ListN.{length, get_or, set, replicate, length-replicate, get_or-replicate}
use lib.Seq.{ext_get_or}
use borrow.Author.Tests.{eqb-true, eqb-false, eq-eqb, ne_eqb, lt-ltb, le-ltb, ltb-true, ltb-false}
use Rattle.model.specs.Sums.{tabulate}
use Rattle.model.proofs.Tables.{length-tabulate, get_or-tabulate, tabulate-eq, tabulate-set}
use Rattle.schedule.specs.inner.Writing.{mask_byte, mask_table}

-- what the table of masks holds
pub mask_table-at : (i j : ℕ) → i ≤ 256 → j < 32 → get_or mask_table (32 * i + j) 0 ≡ mask_byte i j
unfolding mask_table
mask_table-at i j li lj =
    let row : (32 * i + j) / 32 ≡ i = omega arith in
    let column : (32 * i + j) % 32 ≡ j = omega arith in
    get_or-tabulate 8224 (λ n. mask_byte (n / 32) (n % 32)) (32 * i + j) 0 (omega arith) ∙ rw (row, column)

-- the table once the masks of the segments below i are in it
unfoldable pub masks_below : ℕ → List ℕ
masks_below i = tabulate 8224 (λ n. cond (ltb (n / 32) i) (mask_byte (n / 32) (n % 32)) 0)

pub length-masks_below : (i : ℕ) → length (masks_below i) ≡ 8224
unfolding masks_below
length-masks_below i = length-tabulate 8224 (λ n. cond (ltb (n / 32) i) (mask_byte (n / 32) (n % 32)) 0)

pub masks_below-start : masks_below 0 ≡ replicate 8224 0
unfolding masks_below
masks_below-start =
    ext_get_or 0 (masks_below 0) (replicate 8224 0) (length-masks_below 0 ∙ sym (length-replicate {A = ℕ} 8224 0))
    (λ n lt. let inside : n < 8224 = omega (arith, length-masks_below 0) in
    get_or-tabulate 8224 (λ n. cond (ltb (n / 32) 0) (mask_byte (n / 32) (n % 32)) 0) n 0 inside
    ∙ rw (le-ltb (n / 32) 0 (omega arith)) (sym (get_or-replicate {A = ℕ} 8224 n 0 0 inside)))

pub masks_below-step : (i : ℕ) → i < 256 → set (masks_below i) (32 * i + i / 8) (2 ^ (i % 8)) ≡ masks_below (suc i)
unfolding masks_below mask_byte
masks_below-step i lt = rw value at (tabulate-set 8224 (entry i) (entry (suc i)) (32 * i + i / 8) (omega arith)
    (λ n l ne. sym (other n l ne)))
  where
    entry : ℕ → ℕ → ℕ
    entry m n = cond (ltb (n / 32) m) (mask_byte (n / 32) (n % 32)) 0

    value : entry (suc i) (32 * i + i / 8) ≡ 2 ^ (i % 8)
    value =
        let row : (32 * i + i / 8) / 32 ≡ i = omega arith in
        let column : (32 * i + i / 8) % 32 ≡ i / 8 = omega arith in
        rw (row, column, lt-ltb i (suc i) (omega arith), eq-eqb (i / 8) (i / 8) refl)

    other : (n : ℕ) → n < 8224 → (n ≡ 32 * i + i / 8 → ⊥) → entry i n ≡ entry (suc i) n
    other n l ne = go (eqb (n / 32) i) refl (ltb (n / 32) i) refl
      where
        go : (b : Bool) → eqb (n / 32) i ≡ b → (c : Bool) → ltb (n / 32) i ≡ c → entry i n ≡ entry (suc i) n
        go true e c m =
            let same = eqb-true (n / 32) i e in
            let apart : eqb (n / 32 / 8) (n % 32) ≡ false = ne_eqb (n / 32 / 8) (n % 32) (λ s. ne (omega arith)) in
            rw (le-ltb (n / 32) i (omega arith), lt-ltb (n / 32) (suc i) (omega arith), apart)
        go false e true m = rw (m, lt-ltb (n / 32) (suc i) (omega (arith, ltb-true (n / 32) i m)))
        go false e false m =
            let apart = eqb-false (n / 32) i e in
            rw (m, le-ltb (n / 32) (suc i) (omega (arith, ltb-false (n / 32) i m)))

pub masks_below-end : masks_below 256 ≡ mask_table
unfolding masks_below mask_table mask_byte
masks_below-end =
    tabulate-eq 8224 (λ n. cond (ltb (n / 32) 256) (mask_byte (n / 32) (n % 32)) 0) (λ n. mask_byte (n / 32) (n % 32))
    (λ n l. go n l (ltb (n / 32) 256) refl)
  where
    go : (n : ℕ) → n < 8224 → (b : Bool) → ltb (n / 32) 256 ≡ b → cond b (mask_byte (n / 32) (n % 32)) 0 ≡ mask_byte (n / 32) (n % 32)
    go n l true e = refl
    go n l false e =
        let beyond = ltb-false (n / 32) 256 e in
        rw (ne_eqb (n / 32 / 8) (n % 32) (λ s. omega arith))
