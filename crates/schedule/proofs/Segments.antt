-- The segment of an entry: its bounds, and what a step touches, told by it.
use Prim.Native.Nat.{ℕ, ◌<◌}
use mathlib.Core.Path.{◌≡◌, refl, sym, ◌∙◌}
use mathlib.Core.Bool.{Bool, true, false, cond, ◌&&◌}
use native.Mathlib.Omega.{arith}
use lib.Dec.{eqb, ltb}
use lib.ListN.{get_or}
use borrow.Author.Tests.{ltb-true, ltb-false, ne_eqb}
use Rattle.model.specs.Traces.{Trace, segs, steps, entry, touched}
use Rattle.model.proofs.Touches.{entry-ref}
use Rattle.std.specs.Prelude.{Option, Some, None, unwrap_or}
use Rattle.schedule.specs.inner.Segments.{segment_of, mask_row, chosen}

-- a segment is below their number, and has the row of its number
pub segment-row : (n x : ℕ) → unwrap_or (segment_of n x) 256 ≡ mask_row n x
segment-row n x = go (ltb x n)
  where
    go : (b : Bool) → unwrap_or (cond b (Some x) None) 256 ≡ cond b x 256
    go true = refl
    go false = refl

-- what a step touches is the segment of its reference, if it has one
pub touched-ref : (T : Trace) (t i : ℕ) → t < steps T → i < 256 → touched T t i ≡ eqb (mask_row (segs T) (get_or T.entries t 0)) i
touched-ref T t i lt few =
    rw (entry-ref T t lt) (go (get_or T.entries t 0) (ltb (get_or T.entries t 0) (segs T)) refl (ltb i (segs T)) refl)
  where
    go : (x : ℕ) (b : Bool) → ltb x (segs T) ≡ b → (c : Bool) → ltb i (segs T) ≡ c → c && eqb x i ≡ eqb (cond b x 256) i
    go x true e true f = refl
    go x true e false f = sym (ne_eqb x i (λ q. omega (arith, ltb-true x (segs T) e, ltb-false i (segs T) f)))
    go x false e true f =
        ne_eqb x i (λ q. omega (arith, ltb-false x (segs T) e, ltb-true i (segs T) f)) ∙ sym (ne_eqb 256 i (λ q. omega arith))
    go x false e false f = sym (ne_eqb 256 i (λ q. omega arith))

-- the same, told by the segment of its reference
pub touched-segment : (T : Trace) (t i : ℕ) (x : Option ℕ) → t < steps T → i < 256 → x ≡ segment_of (segs T) (get_or T.entries t 0)
    → touched T t i ≡ chosen x (λ s. eqb s i) false
touched-segment T t i x lt few is = touched-ref T t i lt few ∙ rw is (go (get_or T.entries t 0) (ltb (get_or T.entries t 0) (segs T)))
  where
    go : (r : ℕ) (b : Bool) → eqb (cond b r 256) i ≡ chosen (cond b (Some r) None) (λ s. eqb s i) false
    go r true = refl
    go r false = ne_eqb 256 i (λ q. omega arith)

-- a segment is below their number
pub segment-below : (n r x : ℕ) → Some x ≡ segment_of n r → x < n
segment-below n r x is = go (ltb r n) refl is
  where
    go : (b : Bool) → ltb r n ≡ b → Some x ≡ cond b (Some r) None → x < n
    go true e is = let same : x ≡ r = cc in omega (arith, ltb-true r n e)
    go false e is = let z : ◌≡◌ {A = ℕ} 0 1 = cc in absurd (omega arith)

-- a choice by whether a step touches a segment, told by the segment of its reference
pub by-segment : {A : Type 0} (T : Trace) (t : ℕ) (x : Option ℕ) → t < steps T → x ≡ segment_of (segs T) (get_or T.entries t 0)
    → (f : ℕ → A) (z : A) → cond (ltb (entry T t) (segs T)) (f (entry T t)) z ≡ chosen x f z
by-segment T t x lt is f z = rw (entry-ref T t lt, is) (go (get_or T.entries t 0) (ltb (get_or T.entries t 0) (segs T)))
  where
    go : (r : ℕ) (b : Bool) → cond b (f r) z ≡ chosen (cond b (Some r) None) f z
    go r true = refl
    go r false = refl
