-- Warm segments whose numbers ascend: how many they are, and that each is a segment.
use Prim.Native.Nat.{ℕ, zero, suc, ◌≤◌, ◌<◌}
use mathlib.Core.Path.{◌≡◌, refl}
use mathlib.Core.Bool.{Bool, true, false, cond}
use mathlib.Core.List.{List, [], ◌∷◌}
use native.Mathlib.Omega.{arith}
use lib.Dec.{eqb}
use lib.ListN.{length, get_or}
use borrow.Author.Tests.{eqb-true}
use Rattle.model.specs.Sheets.{WarmWithin, listed}

-- a listed number stands at some place
pub listed_at : (xs : List ℕ) (i : ℕ) → listed xs i ≡ true → (k : ℕ) × (k < length xs) × (get_or xs k 0 ≡ i)
unfolding listed
listed_at [] i e = let z : ◌≡◌ {A = Bool} false true = e in absurd
    (let w : ◌≡◌ {A = ℕ} (cond false 1 0) (cond true 1 0) = cc in omega arith)
listed_at (x ∷ xs) i e = go (eqb x i) refl (listed_at xs i)
  where
    go : (b : Bool) → eqb x i ≡ b → (listed xs i ≡ true → (k : ℕ) × (k < length xs) × (get_or xs k 0 ≡ i))
        → (k : ℕ) × (k < suc (length xs)) × (get_or (x ∷ xs) k 0 ≡ i)
    go true is rest = (0, omega arith, eqb-true x i is)
    go false is rest =
        let found = rest (rw is at e) in
        (suc found.0, omega (arith, found.1), found.2)

module _ (n : ℕ) (warm : List ℕ) (within : WarmWithin n warm) where
  -- place k holds at least k
  place-below : (k : ℕ) → k < length warm → k ≤ get_or warm k 0
  place-below zero lt = omega arith
  place-below (suc k) lt = omega (arith, place-below k (omega arith), within.ascending k lt)

  -- so there are at most n
  pub warm-few : length warm ≤ n
  warm-few = go (length warm) refl
    where
      go : (m : ℕ) → length warm ≡ m → m ≤ n
      go zero e = omega arith
      go (suc m) e =
          let lt : m < length warm = omega arith in
          omega (arith, place-below m lt, within.below m lt)

  -- and each is a segment
  pub warm-segment : (i : ℕ) → listed warm i ≡ true → i < n
  warm-segment i e =
      let found = listed_at warm i e in
      omega (arith, found.2, within.below found.0 found.1)
