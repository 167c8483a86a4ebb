-- Sizes and warm segments of two sheets one after the other, the second's numbers moved by the first's n segments.
use Prim.Native.Nat.{ℕ, zero, suc, ◌+◌, ◌-◌, ◌≤◌, ◌<◌}
use mathlib.Core.Path.{◌≡◌, refl, ap, ◌∙◌}
use mathlib.Core.Logic.{⊎_elim}
use mathlib.Core.Bool.{Bool, true, false, cond}
use mathlib.Core.List.{List, [], ◌∷◌, ◌++◌}
use native.Mathlib.Omega.{arith}
use lib.Dec.{eqb}
use lib.ListN.{length, get_or, length-append, get_or-append}
use lib.Seq.{get_or-append-add}
use borrow.Author.Tests.{eqb-true, eqb-false, eq-eqb, ne_eqb}
use Rattle.model.specs.Sheets.{WarmWithin, listed}
use Rattle.model.proofs.Warm.{warm-segment}
use Rattle.joint.specs.inner.Moved.{moved, moved_after}
use Rattle.joint.proofs.Entries.{below-or-beyond}

module _ (n : ℕ) where
  length_moved : (ys : List ℕ) → length (moved n ys) ≡ length ys
  length_moved [] = refl
  length_moved (y ∷ ys) = ap suc (length_moved ys)

  get_or-moved : (ys : List ℕ) (k : ℕ) → k < length ys → get_or (moved n ys) k 0 ≡ n + get_or ys k 0
  get_or-moved [] k lt = absurd (omega arith)
  get_or-moved (y ∷ ys) zero lt = refl
  get_or-moved (y ∷ ys) (suc k) lt = get_or-moved ys k (omega arith)

  -- none of them is below n, and the rest are listed as they were
  moved-below : (ys : List ℕ) (i : ℕ) → i < n → listed (moved n ys) i ≡ false
  unfolding listed
  moved-below [] i lt = refl
  moved-below (y ∷ ys) i lt = rw (ne_eqb (n + y) i (λ same. omega arith)) (moved-below ys i lt)

  moved_listed : (ys : List ℕ) (j : ℕ) → listed (moved n ys) (n + j) ≡ listed ys j
  unfolding listed
  moved_listed [] j = refl
  moved_listed (y ∷ ys) j = rw (moved_listed ys j) (go (eqb y j) refl)
    where
      go : (b : Bool) → eqb y j ≡ b → cond (eqb (n + y) (n + j)) true (listed ys j) ≡ cond b true (listed ys j)
      go true e = rw (eq-eqb (n + y) (n + j) (omega (arith, eqb-true y j e)))
      go false e = rw (ne_eqb (n + y) (n + j) (λ same. eqb-false y j e (omega arith)))

-- listed in one of two lists
listed-append : (xs ys : List ℕ) (i : ℕ) → listed (xs ++ ys) i ≡ cond (listed xs i) true (listed ys i)
unfolding listed
listed-append [] ys i = refl
listed-append (x ∷ xs) ys i = rw (listed-append xs ys i) (go (eqb x i))
  where
    go : (b : Bool) → cond b true (cond (listed xs i) true (listed ys i)) ≡ cond (cond b true (listed xs i)) true (listed ys i)
    go true = refl
    go false = refl

-- numbers, and others after them moved by n
module _ (xs : List ℕ) (n : ℕ) (ys : List ℕ) where
  pub numbers-length : length (moved_after xs n ys) ≡ length xs + length ys
  numbers-length = omega (arith, length-append xs (moved n ys), length_moved n ys)

  pub first-number : (k : ℕ) → k < length xs → get_or (moved_after xs n ys) k 0 ≡ get_or xs k 0
  first-number k lt = get_or-append xs (moved n ys) 0 k lt

  pub second-number : (k : ℕ) → length xs ≤ k → k - length xs < length ys → get_or (moved_after xs n ys) k 0
      ≡ n + get_or ys (k - length xs) 0
  second-number k le lt =
      let e : length xs + (k - length xs) ≡ k = omega arith in
      rw e at (get_or-append-add xs (moved n ys) (k - length xs) 0) ∙ get_or-moved n ys (k - length xs) lt

module _ (n m : ℕ) (xs ys : List ℕ) (first : WarmWithin n xs) (second : WarmWithin m ys) where
  abbrev both : List ℕ
  both = moved_after xs n ys

  -- of the first's segments those of the first are listed, of the second's those of the second
  pub first-listed : (i : ℕ) → i < n → listed (moved_after xs n ys) i ≡ listed xs i
  first-listed i lt = rw (listed-append xs (moved n ys) i, moved-below n ys i lt) (go (listed xs i))
    where
      go : (b : Bool) → cond b true false ≡ b
      go true = refl
      go false = refl

  pub second-listed : (j : ℕ) → listed (moved_after xs n ys) (n + j) ≡ listed ys j
  second-listed j = rw (listed-append xs (moved n ys) (n + j), moved_listed n ys j) (go (listed xs (n + j)) refl)
    where
      go : (b : Bool) → listed xs (n + j) ≡ b → cond b true (listed ys j) ≡ listed ys j
      go true e = absurd (omega (arith, warm-segment n xs first (n + j) e))
      go false e = refl

  pub warm-both : WarmWithin (n + m) (moved_after xs n ys)
  warm-both = record { below = below; ascending = ascending }
    where
      below : (k : ℕ) → k < length both → get_or both k 0 < n + m
      below k lt =
          ⊎_elim (λ l. omega (arith, first-number xs n ys k l, first.below k l))
          (λ le.
          let l : k - length xs < length ys = omega (arith, numbers-length xs n ys) in
          omega (arith, second-number xs n ys k le l, second.below (k - length xs) l))
          (below-or-beyond k (length xs))

      ascending : (k : ℕ) → suc k < length both → get_or both k 0 < get_or both (suc k) 0
      ascending k lt =
          ⊎_elim (λ l. omega (arith, first-number xs n ys k (omega arith), first-number xs n ys (suc k) l, first.ascending k l))
          (λ le. upper le)
          (below-or-beyond (suc k) (length xs))
        where
          upper : length xs ≤ suc k → get_or both k 0 < get_or both (suc k) 0
          upper le =
              let l : suc k - length xs < length ys = omega (arith, numbers-length xs n ys) in
              ⊎_elim (λ before. omega (arith, first-number xs n ys k before, first.below k before, second-number xs n ys (suc k) le l))
              (λ after.
              let e : suc k - length xs ≡ suc (k - length xs) = omega arith in
              omega (
                arith,
                second-number xs n ys k after (omega arith),
                second-number xs n ys (suc k) le l,
                ap (λ i. get_or ys i 0) e,
                second.ascending (k - length xs) (omega arith),
              ))
              (below-or-beyond k (length xs))
