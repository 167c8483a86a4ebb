-- What the code of the entries rests on: steps in which both touch, the entries of the joint sheet.
use Prim.Native.Nat.{ℕ, zero, suc, ◌≤◌, ◌<◌, min}
use mathlib.Core.Path.{◌≡◌, refl, sym, ap, ◌∙◌}
use mathlib.Core.Bool.{Bool, false, not, ◌&&◌, ◌||◌, and-false, or-false, or_assoc}
use mathlib.Core.List.{List, [], ◌∷◌}
use native.Mathlib.Omega.{arith}
use lib.Dec.{eqb}
use lib.ListN.{length, get_or}
use Rattle.model.specs.Sheets.{idle}
use Rattle.model.proofs.Tables.{length-tabulate, get_or-tabulate}
use Rattle.joint.specs.Joint.{both_touch, joint_entry}
use Rattle.std.specs.List.{list_any, zip}
use Rattle.join.specs.inner.Entries.{entries_of}

-- ---- touches

-- both entries of a step are touches
abbrev pub both_at : ℕ × ℕ → Bool
both_at p = not (eqb p.0 idle) && not (eqb p.1 idle)

-- the first step and those after it
both-first : (x y : ℕ) (xs ys : List ℕ) (n : ℕ) → both_touch (x ∷ xs) (y ∷ ys) (suc n) ≡ both_at (x, y) || both_touch xs ys n
unfolding both_touch
both-first x y xs ys zero = sym (or-false (both_at (x, y)))
both-first x y xs ys (suc n) =
    rw (both-first x y xs ys n) (or_assoc (both_at (x, y)) (both_touch xs ys n) (both_at (get_or xs n idle, get_or ys n idle)))

-- a record without steps touches with none
first-empty : (ys : List ℕ) (n : ℕ) → both_touch [] ys n ≡ false
unfolding both_touch
first-empty ys zero = refl
first-empty ys (suc n) = rw (first-empty ys n) refl

second-empty : (xs : List ℕ) (n : ℕ) → both_touch xs [] n ≡ false
unfolding both_touch
second-empty xs zero = refl
second-empty xs (suc n) = rw (second-empty xs n) (and-false (not (eqb (get_or xs n idle) idle)))

-- so the steps in which both have an entry decide
pub both-any : (xs ys : List ℕ) (n : ℕ) → min (length xs) (length ys) ≤ n → list_any both_at (zip xs ys) ≡ both_touch xs ys n
both-any [] ys n h = sym (first-empty ys n)
both-any (x ∷ xs) [] n h = sym (second-empty (x ∷ xs) n)
both-any (x ∷ xs) (y ∷ ys) zero h = absurd (omega arith)
both-any (x ∷ xs) (y ∷ ys) (suc n) h = rw (both-any xs ys n (omega arith)) (sym (both-first x y xs ys n))

-- ---- the entries of the joint sheet

module _ (n : ℕ) (xs ys : List ℕ) (steps : ℕ) where
  pub entries-length : length (entries_of n xs ys steps) ≡ steps
  entries-length = length-tabulate steps (λ t. joint_entry n (get_or xs t idle) (get_or ys t idle))

  -- the entry e that the entries x and y of a step make
  pub entries_at : (t : ℕ) → t < steps → (x y e : ℕ) → x ≡ get_or xs t idle → y ≡ get_or ys t idle → e ≡ joint_entry n x y
      → e ≡ get_or (entries_of n xs ys steps) t 0
  entries_at t lt x y e first second is =
      is
      ∙ ap (λ k. joint_entry n k y) first
      ∙ ap (λ k. joint_entry n (get_or xs t idle) k) second
      ∙ sym (get_or-tabulate steps (λ s. joint_entry n (get_or xs s idle) (get_or ys s idle)) t 0 lt)
