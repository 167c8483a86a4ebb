-- Laws of lists of segments in an order: places, removal, what comes to the front, and the first k of them. No entry needs to stand in
-- them once only.
use Prim.Native.Nat.{ℕ, zero, suc, ◌+◌, ◌≤◌}
use mathlib.Core.Path.{◌≡◌, refl, sym, ◌∙◌}
use mathlib.Core.Bool.{Bool, true, false, cond, ◌||◌, false≢true}
use mathlib.Core.List.{List, [], ◌∷◌}
use mathlib.Core.Option.{Option, none, some}
use native.Mathlib.Omega.{arith}
use lib.Dec.{eqb, ltb}
use lib.ListN.{length, take}
use borrow.Author.Tests.{lt-ltb, le-ltb, ltb-true, ltb-false, eqb-true}
use Rattle.model.specs.Traces.{later}
use Rattle.replacement.specs.Memory.{has}
use Rattle.replacement.specs.Orders.{place_of, without, to_front}
use Rattle.replacement.specs.Recency.{miss_beyond, looked_in}

-- a place one further, and a memory one larger
miss_later : (k : ℕ) (o : Option ℕ) → miss_beyond (suc k) (later o) ≡ miss_beyond k o
unfolding later
miss_later k none = refl
miss_later k (some p) = go (ltb k p) refl
  where
    go : (b : Bool) → ltb k p ≡ b → ◌≡◌ {A = ℕ} (cond (ltb (suc k) (suc p)) 1 0) (cond (ltb k p) 1 0)
    go true e = rw (e, lt-ltb (suc k) (suc p) (omega (arith, ltb-true k p e)))
    go false e = rw (e, le-ltb (suc k) (suc p) (omega (arith, ltb-false k p e)))

miss-first : (o : Option ℕ) → miss_beyond 0 (later o) ≡ 1
unfolding later
miss-first none = refl
miss-first (some p) = rw (lt-ltb 0 (suc p) (omega arith))

-- a place beyond k is that of what is not among the first k
pub miss-has : (k x : ℕ) (l : List ℕ) → miss_beyond k (place_of x l) ≡ cond (has x (take k l)) 0 1
unfolding place_of has
miss-has zero x [] = refl
miss-has (suc k) x [] = refl
miss-has zero x (y ∷ ys) = go (eqb y x) refl
  where
    go : (b : Bool) → eqb y x ≡ b → miss_beyond 0 (cond (eqb y x) (some 1) (later (place_of x ys))) ≡ 1
    go true e = rw e
    go false e = rw e (miss-first (place_of x ys))
miss-has (suc k) x (y ∷ ys) = go (eqb y x) refl (miss-has k x ys)
  where
    go : (b : Bool) → eqb y x ≡ b → miss_beyond k (place_of x ys) ≡ cond (has x (take k ys)) 0 1
        → miss_beyond (suc k) (cond (eqb y x) (some 1) (later (place_of x ys))) ≡ cond (eqb y x || has x (take k ys)) 0 1
    go true e ih = rw (e, le-ltb (suc k) 1 (omega arith))
    go false e ih = rw e (miss_later k (place_of x ys) ∙ ih)

-- what is among the first k + 1 is removed from them: the first k of what is left
pub hit-take : (k x : ℕ) (l : List ℕ) → has x (take (suc k) l) ≡ true → without x (take (suc k) l) ≡ take k (without x l)
unfolding has without
hit-take k x [] h = absurd (false≢true h)
hit-take zero x (y ∷ ys) h = go (eqb y x) refl h
  where
    go : (b : Bool) → eqb y x ≡ b → eqb y x || false ≡ true → cond (eqb y x) [] (y ∷ []) ≡ []
    go true e h = rw e
    go false e h = absurd (false≢true (rw e at h))
hit-take (suc k) x (y ∷ ys) h = go (eqb y x) refl h (hit-take k x ys)
  where
    go : (b : Bool) → eqb y x ≡ b → eqb y x || has x (take (suc k) ys) ≡ true
        → (has x (take (suc k) ys) ≡ true → without x (take (suc k) ys) ≡ take k (without x ys))
        → cond (eqb y x) (take (suc k) ys) (y ∷ without x (take (suc k) ys)) ≡ take (suc k) (cond (eqb y x) ys (y ∷ without x ys))
    go true e h ih = rw e
    go false e h ih = rw (e, ih (rw e at h))

-- what is not among the first k + 1 leaves the first k as they are
pub miss-take : (k x : ℕ) (l : List ℕ) → has x (take (suc k) l) ≡ false → take k (without x l) ≡ take k l
unfolding has without
miss-take k x [] h = refl
miss-take zero x (y ∷ ys) h = refl
miss-take (suc k) x (y ∷ ys) h = go (eqb y x) refl h (miss-take k x ys)
  where
    go : (b : Bool) → eqb y x ≡ b → eqb y x || has x (take (suc k) ys) ≡ false
        → (has x (take (suc k) ys) ≡ false → take k (without x ys) ≡ take k ys)
        → take (suc k) (cond (eqb y x) ys (y ∷ without x ys)) ≡ y ∷ take k ys
    go true e h ih = absurd (false≢true (sym (rw e at h)))
    go false e h ih = rw (e, ih (rw e at h))

-- another than x stays
pub has-without : (i x : ℕ) (l : List ℕ) → eqb x i ≡ false → has i (without x l) ≡ has i l
unfolding has without
has-without i x [] e = refl
has-without i x (y ∷ ys) e = go (eqb y x) refl (has-without i x ys e)
  where
    go : (b : Bool) → eqb y x ≡ b → has i (without x ys) ≡ has i ys
        → has i (cond (eqb y x) ys (y ∷ without x ys)) ≡ eqb y i || has i ys
    go true b ih = rw (b, eqb-true y x b, e)
    go false b ih = rw (b, ih)

-- what the list has once x is at the front
pub has-front : (i x : ℕ) (l : List ℕ) → has i (to_front x l) ≡ eqb x i || has i l
unfolding has
has-front i x l = go (eqb x i) refl
  where
    go : (b : Bool) → eqb x i ≡ b → eqb x i || has i (without x l) ≡ eqb x i || has i l
    go true e = rw e
    go false e = rw (e, has-without i x l e)

-- its length: one more where x was not in it
pub length_front : (x : ℕ) (l : List ℕ) → length (to_front x l) ≡ length l + cond (has x l) 0 1
unfolding has without
length_front x [] = refl
length_front x (y ∷ ys) = go (eqb y x) refl (length_front x ys)
  where
    go : (b : Bool) → eqb y x ≡ b → suc (length (without x ys)) ≡ length ys + cond (has x ys) 0 1
        → suc (length (cond (eqb y x) ys (y ∷ without x ys))) ≡ suc (length ys) + cond (eqb y x || has x ys) 0 1
    go true e ih = rw e (omega arith)
    go false e ih = rw e (omega arith)

-- what a touch looks at is within the list
pub looked-within : (x : ℕ) (l : List ℕ) → looked_in l (place_of x l) ≤ length l
unfolding place_of later
looked-within x [] = omega arith
looked-within x (y ∷ ys) = go (eqb y x) refl (place_of x ys) refl (looked-within x ys)
  where
    go : (b : Bool) → eqb y x ≡ b → (o : Option ℕ) → place_of x ys ≡ o → looked_in ys (place_of x ys) ≤ length ys
        → looked_in (y ∷ ys) (cond (eqb y x) (some 1) (later (place_of x ys))) ≤ suc (length ys)
    go true e o p ih = rw e (omega arith)
    go false e none p ih = rw (e, p) (omega arith)
    go false e (some q) p ih = rw (e, p) (omega (arith, rw p at ih))
