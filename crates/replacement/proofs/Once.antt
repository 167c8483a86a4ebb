-- The recency list has each segment once: what stands at a place stands at no place before it.
use Prim.Native.Nat.{ℕ, zero, suc, ◌<◌}
use mathlib.Core.Path.{◌≡◌, refl, sym, ◌∙◌}
use mathlib.Core.Bool.{Bool, true, false, cond, ◌||◌, false≢true}
use mathlib.Core.List.{List, [], ◌∷◌}
use native.Mathlib.Omega.{arith}
use lib.Dec.{eqb, ltb}
use lib.ListN.{length, get_or, take}
use borrow.Author.Tests.{eqb-true, eqb-false, ne_eqb, eq-eqb, ltb-true, ltb-false}
use Rattle.model.specs.Traces.{Trace, segs, entry}
use Rattle.replacement.specs.Memory.{has}
use Rattle.replacement.specs.Orders.{without}
use Rattle.replacement.specs.Recency.{recency}
use Rattle.replacement.proofs.Bounds.{recency-on, recency-off}
use Rattle.replacement.proofs.Orders.{has-without}

-- no entry stands in the list again
abbrev pub Once : List ℕ → Type 0
Once [] = Unit {0}
Once (y ∷ ys) = (has y ys ≡ false) × Once ys

eqb-other : (x y : ℕ) → eqb y x ≡ false → eqb x y ≡ false
eqb-other x y e = ne_eqb x y (λ same. eqb-false y x e (sym same))

once-without : (x : ℕ) (l : List ℕ) → Once l → Once (without x l)
unfolding without
once-without x [] once = tt
once-without x (y ∷ ys) once = go (eqb y x) refl (once-without x ys once.1)
  where
    go : (b : Bool) → eqb y x ≡ b → Once (without x ys) → Once (cond (eqb y x) ys (y ∷ without x ys))
    go true e rest = rw e once.1
    go false e rest = rw e (has-without y x ys (eqb-other x y e) ∙ once.0, rest)

-- what is taken out is not in the list
gone-without : (x : ℕ) (l : List ℕ) → Once l → has x (without x l) ≡ false
unfolding without has
gone-without x [] once = refl
gone-without x (y ∷ ys) once = go (eqb y x) refl (gone-without x ys once.1)
  where
    go : (b : Bool) → eqb y x ≡ b → has x (without x ys) ≡ false → has x (cond (eqb y x) ys (y ∷ without x ys)) ≡ false
    go true e rest = rw (e, ← eqb-true y x e) once.0
    go false e rest = rw (e, e) rest

pub once-recency : (T : Trace) (t : ℕ) → Once (recency T t)
unfolding recency
once-recency T zero = tt
once-recency T (suc t) = go (ltb (entry T t) (segs T)) refl (once-recency T t)
  where
    go : (b : Bool) → ltb (entry T t) (segs T) ≡ b → Once (recency T t) → Once (recency T (suc t))
    go true e once =
        rw (recency-on T t (ltb-true (entry T t) (segs T) e))
        (gone-without (entry T t) (recency T t) once, once-without (entry T t) (recency T t) once)
    go false e once = rw (recency-off T t (ltb-false (entry T t) (segs T) e)) once

-- the list has what stands at a place
has-at : (n : ℕ) (l : List ℕ) → n < length l → has (get_or l n 0) l ≡ true
unfolding has
has-at n [] lt = absurd (omega arith)
has-at zero (y ∷ ys) lt = rw (eq-eqb y y refl)
has-at (suc n) (y ∷ ys) lt = go (eqb y (get_or ys n 0)) (has-at n ys (omega arith))
  where
    go : (b : Bool) → has (get_or ys n 0) ys ≡ true → b || has (get_or ys n 0) ys ≡ true
    go true e = refl
    go false e = e

-- so have its first ones up to the place
pub has-up-to : (n : ℕ) (l : List ℕ) → n < length l → has (get_or l n 0) (take (suc n) l) ≡ true
unfolding has
has-up-to n [] lt = absurd (omega arith)
has-up-to zero (y ∷ ys) lt = rw (eq-eqb y y refl)
has-up-to (suc n) (y ∷ ys) lt = go (eqb y (get_or ys n 0)) (has-up-to n ys (omega arith))
  where
    go : (b : Bool) → has (get_or ys n 0) (take (suc n) ys) ≡ true → b || has (get_or ys n 0) (take (suc n) ys) ≡ true
    go true e = refl
    go false e = e

-- and not those before it
pub not-before : (n : ℕ) (l : List ℕ) → Once l → n < length l → has (get_or l n 0) (take n l) ≡ false
unfolding has
not-before n [] once lt = absurd (omega arith)
not-before zero (y ∷ ys) once lt = refl
not-before (suc n) (y ∷ ys) once lt = go (eqb y (get_or ys n 0)) refl (not-before n ys once.1 (omega arith)) (has-at n ys (omega arith))
  where
    go : (b : Bool) → eqb y (get_or ys n 0) ≡ b → has (get_or ys n 0) (take n ys) ≡ false → has (get_or ys n 0) ys ≡ true
        → eqb y (get_or ys n 0) || has (get_or ys n 0) (take n ys) ≡ false
    go true e ih here = absurd (false≢true (sym (rw (eqb-true y (get_or ys n 0) e) at once.0) ∙ here))
    go false e ih here = rw e ih
