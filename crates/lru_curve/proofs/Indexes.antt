-- The place of a segment in a list: found by looking at one entry after the other, and what it says of the list.
use Prim.Native.Nat.{ℕ, suc, ◌+◌, ◌-◌, ◌≤◌, ◌<◌}
use mathlib.Core.Path.{◌≡◌, refl, sym, ap, ◌∙◌}
use mathlib.Core.Bool.{Bool, true, false, cond, ◌||◌}
use mathlib.Core.List.{List, [], ◌∷◌, ◌++◌}
use mathlib.Core.Option.{none, some}
use native.Mathlib.Omega.{arith}
use lib.Dec.{eqb, ltb}
use lib.ListN.{length, get_or, take, drop, drop_of_length-le}
use lib.Seq.{drop-cons}
use borrow.Author.Tests.{lt-ltb, le-ltb, ltb-true, ltb-false, eqb-true, eq-eqb, ne_eqb}
use Rattle.std.specs.Prelude.{Option, Some, None, MatchOption}
use Rattle.std.specs.List.{position_or_len}
use Rattle.std.proofs.lemmas.List.Recursion.{is_position_or_len}
use Rattle.model.specs.Traces.{later}
use Rattle.replacement.specs.Memory.{has}
use Rattle.replacement.specs.Orders.{place_of, without}
use Rattle.replacement.proofs.Orders.{looked-within}
use Rattle.lru_curve.specs.declared.recency_list.Walk.{Walk}
use Rattle.lru_curve.specs.inner.Entries.{before_in, walk_of}
use Rattle.lru_curve.specs.inner.Used.{frame_in}

-- x is not among the first i entries
abbrev pub PassedBy : ℕ → List ℕ → ℕ → Type 0
PassedBy x l i = frame_in x l ≡ i + frame_in x (drop i l)

-- one entry more that is not x, the entry that is, and the end of the list
pub index-next : (x : ℕ) (l : List ℕ) (i : ℕ) → PassedBy x l i → i < length l → (get_or l i 0 ≡ x → ⊥) → PassedBy x l (suc i)
unfolding frame_in
index-next x l i e lt other =
    e ∙ (ap (λ (r : List ℕ). i + frame_in x r) (drop-cons l i 0 lt) ∙ rw (ne_eqb (get_or l i 0) x other) (omega arith))

pub index-here : (x : ℕ) (l : List ℕ) (i : ℕ) → PassedBy x l i → i < length l → get_or l i 0 ≡ x → i ≡ frame_in x l
unfolding frame_in
index-here x l i e lt same =
    sym (e ∙ (ap (λ (r : List ℕ). i + frame_in x r) (drop-cons l i 0 lt) ∙ rw (eq-eqb (get_or l i 0) x same) (omega arith)))

pub index-none : (x : ℕ) (l : List ℕ) (i : ℕ) → PassedBy x l i → length l ≤ i → i ≡ frame_in x l
unfolding frame_in
index-none x l i e le = sym (e ∙ (ap (λ (r : List ℕ). i + frame_in x r) (drop_of_length-le l le) ∙ omega arith))

-- what the library's `position` gives is that place
frame-position : (x : ℕ) (l : List ℕ) → frame_in x l ≡ position_or_len (λ y. eqb y x) l
unfolding frame_in
frame-position x l =
    is_position_or_len (frame_in x) (λ y. eqb y x) refl (λ y ys. ap (λ (k : ℕ). cond (eqb y x) 0 k) (omega arith)) l

pub position-index : (x : ℕ) (l : List ℕ) (r : Option ℕ)
    → r ≡ cond (ltb (position_or_len (λ y. eqb y x) l) (length l)) (Some (position_or_len (λ y. eqb y x) l)) None
    → MatchOption r (length l ≤ frame_in x l) (λ p. (p < length l) × (p ≡ frame_in x l))
position-index x l r e = go (ltb (frame_in x l) (length l)) refl
  where
    go : (b : Bool) → ltb (frame_in x l) (length l) ≡ b → MatchOption r (length l ≤ frame_in x l) (λ p. (p < length l) × (p ≡ frame_in x l))
    go true h = rw (e, ← frame-position x l, h) (ltb-true _ _ h, refl)
    go false h = rw (e, ← frame-position x l, h) (ltb-false _ _ h)

ltb-suc : (a b : ℕ) → ltb (suc a) (suc b) ≡ ltb a b
ltb-suc a b = go (ltb a b) refl
  where
    go : (c : Bool) → ltb a b ≡ c → ltb (suc a) (suc b) ≡ ltb a b
    go true e = rw (e, lt-ltb (suc a) (suc b) (omega (arith, ltb-true a b e)))
    go false e = rw (e, le-ltb (suc a) (suc b) (omega (arith, ltb-false a b e)))

pub index-within : (x : ℕ) (l : List ℕ) → frame_in x l ≤ length l
unfolding frame_in
index-within x [] = omega arith
index-within x (y ∷ ys) = go (eqb y x) refl (index-within x ys)
  where
    go : (b : Bool) → eqb y x ≡ b → frame_in x ys ≤ length ys → cond (eqb y x) 0 (suc (frame_in x ys)) ≤ suc (length ys)
    go true e ih = rw e (omega arith)
    go false e ih = rw e (omega arith)

-- the list has x where its index is within it
pub has-index : (x : ℕ) (l : List ℕ) → has x l ≡ ltb (frame_in x l) (length l)
unfolding has frame_in
has-index x [] = refl
has-index x (y ∷ ys) = go (eqb y x) refl (has-index x ys)
  where
    go : (b : Bool) → eqb y x ≡ b → has x ys ≡ ltb (frame_in x ys) (length ys)
        → eqb y x || has x ys ≡ ltb (cond (eqb y x) 0 (suc (frame_in x ys))) (suc (length ys))
    go true e ih = rw (e, lt-ltb 0 (suc (length ys)) (omega arith))
    go false e ih = rw (e, ltb-suc (frame_in x ys) (length ys)) ih

-- and its place there is one more
pub place-index : (x : ℕ) (l : List ℕ) → place_of x l ≡ cond (ltb (frame_in x l) (length l)) (some (suc (frame_in x l))) none
unfolding place_of frame_in later
place-index x [] = refl
place-index x (y ∷ ys) = go (eqb y x) refl (ltb (frame_in x ys) (length ys)) refl (place-index x ys)
  where
    go : (b : Bool) → eqb y x ≡ b → (c : Bool) → ltb (frame_in x ys) (length ys) ≡ c
        → place_of x ys ≡ cond (ltb (frame_in x ys) (length ys)) (some (suc (frame_in x ys))) none
        → cond (eqb y x) (some 1) (later (place_of x ys))
        ≡ cond (ltb (cond (eqb y x) 0 (suc (frame_in x ys))) (suc (length ys))) (some (suc (cond (eqb y x) 0 (suc (frame_in x ys))))) none
    go true e c l ih = rw (e, lt-ltb 0 (suc (length ys)) (omega arith))
    go false e true l ih = rw (e, ih, ltb-suc (frame_in x ys) (length ys), l)
    go false e false l ih = rw (e, ih, ltb-suc (frame_in x ys) (length ys), l)

-- the entries before its place are the index
pub before-index : (x : ℕ) (l : List ℕ) → before_in l (place_of x l) ≡ frame_in x l
before-index x l = go (ltb (frame_in x l) (length l)) refl
  where
    go : (b : Bool) → ltb (frame_in x l) (length l) ≡ b → before_in l (place_of x l) ≡ frame_in x l
    go true e = rw (place-index x l, e) (omega arith)
    go false e = rw (place-index x l, e) (omega (arith, ltb-false (frame_in x l) (length l) e, index-within x l))

-- a walk with p entries before the segment and k looked at
abbrev pub walked : ℕ → ℕ → Walk
walked p k = record { before = p; looked = k }

-- the walk up to x, which is in the list, or is not
pub walk-found : (x : ℕ) (l : List ℕ) (p : ℕ) → p ≡ frame_in x l → p < length l → walked p (suc p) ≡ walk_of x l
walk-found x l p e lt =
    let less : p ≡ suc p - 1 = omega arith in
    rw (place-index x l, ← e, lt-ltb p (length l) lt) (ap (λ (q : ℕ). walked q (suc p)) less)

pub walk_none : (x : ℕ) (l : List ℕ) (p : ℕ) → p ≡ frame_in x l → p ≡ length l → walked p p ≡ walk_of x l
walk_none x l p e all = rw (place-index x l, ← e, le-ltb p (length l) (omega arith), all)

-- what a walk gives
module _ (x : ℕ) (l : List ℕ) {w : Walk} (e : w ≡ walk_of x l) where
  pub before-is : w.before ≡ frame_in x l
  before-is = ap (λ (v : Walk). v.before) e ∙ before-index x l

  pub before-within : w.before ≤ length l
  before-within = omega (arith, before-is, index-within x l)

  pub looked-at-most : w.looked ≤ length l
  looked-at-most = omega (arith, ap (λ (v : Walk). v.looked) e, looked-within x l)

  pub looked-found : w.before < length l → w.looked ≡ suc w.before
  looked-found lt = ap (λ (v : Walk). v.looked) e ∙ rw (place-index x l, ← before-is, lt-ltb w.before (length l) lt)

  pub looked-all : length l ≤ w.before → w.looked ≡ length l
  looked-all le = ap (λ (v : Walk). v.looked) e ∙ rw (place-index x l, ← before-is, le-ltb w.before (length l) le)

-- the entry at the index is x, and without it the list has the entries before and behind; where there is none the list is as it was
pub entry-index : (x : ℕ) (l : List ℕ) → frame_in x l < length l → get_or l (frame_in x l) 0 ≡ x
unfolding frame_in
entry-index x [] lt = absurd (omega arith)
entry-index x (y ∷ ys) lt = go (eqb y x) refl lt (entry-index x ys)
  where
    go : (b : Bool) → eqb y x ≡ b → cond (eqb y x) 0 (suc (frame_in x ys)) < suc (length ys)
        → (frame_in x ys < length ys → get_or ys (frame_in x ys) 0 ≡ x) → get_or (y ∷ ys) (cond (eqb y x) 0 (suc (frame_in x ys))) 0 ≡ x
    go true e lt ih = rw e (eqb-true y x e)
    go false e lt ih = rw e (ih (omega (arith, rw e at lt)))

pub without-index : (x : ℕ) (l : List ℕ) → without x l ≡ take (frame_in x l) l ++ drop (suc (frame_in x l)) l
unfolding without frame_in
without-index x [] = refl
without-index x (y ∷ ys) = go (eqb y x) refl (without-index x ys)
  where
    go : (b : Bool) → eqb y x ≡ b → without x ys ≡ take (frame_in x ys) ys ++ drop (suc (frame_in x ys)) ys
        → cond (eqb y x) ys (y ∷ without x ys)
        ≡ take (cond (eqb y x) 0 (suc (frame_in x ys))) (y ∷ ys) ++ drop (suc (cond (eqb y x) 0 (suc (frame_in x ys)))) (y ∷ ys)
    go true e ih = rw e
    go false e ih = rw (e, ih)
