-- What one step adds, as a sum over the segments: each segment by itself. Laws of `touched` and `unreferenced`.
use Prim.Native.Nat.{ℕ, suc, ◌≤◌, ◌<◌}
use mathlib.Core.Path.{◌≡◌, refl, sym, ◌∙◌}
use mathlib.Core.Bool.{Bool, true, false, cond, ◌&&◌}
use mathlib.Core.Option.{Option, none, some}
use native.Mathlib.Omega.{arith}
use lib.Dec.{eqb, ltb}
use lib.ListN.{get_or}
use borrow.Author.Tests.{lt-ltb, le-ltb, ltb-true, eq-eqb, ne_eqb, eqb-true}
use Rattle.model.specs.Sums.{sum}
use Rattle.model.specs.Traces.{Trace, segs, steps, entry, touched, touching, later, unreferenced}
use Rattle.model.specs.Figures.{is_reuse}
use Rattle.model.proofs.Lists.{get_or-any}
use Rattle.model.proofs.Sums.{sum-eq, sum-at}

-- of a segment, touched is whether it is the entry
pub touched-entry : (T : Trace) (t i : ℕ) → i < segs T → touched T t i ≡ eqb (entry T t) i
touched-entry T t i lt = rw (lt-ltb i (segs T) lt)

-- what is no segment is never touched
pub touched-beyond : (T : Trace) (t i : ℕ) → segs T ≤ i → touched T t i ≡ false
touched-beyond T t i le = rw (le-ltb i (segs T) le)

-- a segment that is the entry is touched
pub touched-at : (T : Trace) (t : ℕ) → entry T t < segs T → touched T t (entry T t) ≡ true
touched-at T t lt = rw (lt-ltb (entry T t) (segs T) lt, eq-eqb (entry T t) (entry T t) refl)

-- what is touched is a segment, and it is the entry
pub touched-below : (T : Trace) (t i : ℕ) → touched T t i ≡ true → i < segs T
touched-below T t i m = ltb-true i (segs T) (left (ltb i (segs T)) (eqb (entry T t) i) m)
  where
    left : (a b : Bool) → a && b ≡ true → a ≡ true
    left true b e = refl
    left false b e = e

pub entry-touched : (T : Trace) (t i : ℕ) → touched T t i ≡ true → entry T t ≡ i
entry-touched T t i m = eqb-true (entry T t) i (sym (touched-entry T t i (touched-below T t i m)) ∙ m)

-- where the entry is a segment, touched is whether it is the entry
pub touched-is : (T : Trace) (t i : ℕ) → entry T t < segs T → touched T t i ≡ eqb (entry T t) i
touched-is T t i lt = go (eqb (entry T t) i) refl
  where
    go : (b : Bool) → eqb (entry T t) i ≡ b → ltb i (segs T) && b ≡ b
    go true e = let same = eqb-true (entry T t) i e in rw (lt-ltb i (segs T) (omega arith))
    go false e = and-false (ltb i (segs T))
      where
        and-false : (b : Bool) → b && false ≡ false
        and-false true = refl
        and-false false = refl

-- where it is not, nothing is touched
pub idle-touched : (T : Trace) (t i : ℕ) → segs T ≤ entry T t → touched T t i ≡ false
idle-touched T t i le = go (ltb i (segs T)) refl
  where
    go : (b : Bool) → ltb i (segs T) ≡ b → b && eqb (entry T t) i ≡ false
    go true e = ne_eqb (entry T t) i (λ same. omega (arith, ltb-true i (segs T) e))
    go false e = refl

-- the entry of a step is its reference
pub entry-ref : (T : Trace) (t : ℕ) → t < steps T → entry T t ≡ get_or T.entries t 0
entry-ref T t lt = get_or-any T.entries t (segs T) 0 lt

-- what a step adds whose entry is a segment, and one whose entry is none
pub touching_at : (T : Trace) (f : ℕ → ℕ → ℕ) (t : ℕ) → entry T t < segs T → touching T f t ≡ f t (entry T t)
unfolding touching
touching_at T f t lt = rw (lt-ltb (entry T t) (segs T) lt)

pub touching-idle : (T : Trace) (f : ℕ → ℕ → ℕ) (t : ℕ) → segs T ≤ entry T t → touching T f t ≡ 0
unfolding touching
touching-idle T f t le = rw (le-ltb (entry T t) (segs T) le)

pub touching-sum : (T : Trace) (f : ℕ → ℕ → ℕ) (t : ℕ) → touching T f t ≡ sum (segs T) (λ i. cond (touched T t i) (f t i) 0)
unfolding touching
touching-sum T f t =
    sym (sum-at (segs T) (entry T t) (f t))
    ∙ sum-eq (segs T) (λ i. cond (eqb (entry T t) i) (f t i) 0) (λ i. cond (touched T t i) (f t i) 0)
    (λ i lt. rw (touched-entry T t i lt))

pub unreferenced-none : (T : Trace) (i : ℕ) → unreferenced T 0 i ≡ cond (T.start i) (some 0) none
unfolding unreferenced
unreferenced-none T i = refl

-- right after a touch the unreferenced time is 0, and each other step adds 1
pub unreferenced-touched : (T : Trace) (t i : ℕ) → touched T t i ≡ true → unreferenced T (suc t) i ≡ some 0
unfolding unreferenced
unreferenced-touched T t i e = rw e

pub unreferenced-later : (T : Trace) (t i : ℕ) → touched T t i ≡ false → unreferenced T (suc t) i ≡ later (unreferenced T t i)
unfolding unreferenced
unreferenced-later T t i e = rw e

-- a step more keeps whether there is an earlier touch
pub reuse-later : (o : Option ℕ) → is_reuse (later o) ≡ is_reuse o
unfolding later
reuse-later none = refl
reuse-later (some k) = refl
