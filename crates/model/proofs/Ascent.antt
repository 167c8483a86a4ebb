-- Along ascending thresholds a kept reuse stays kept, so optmem never falls and misses, volume and load never rise: for any two
-- prices compared by cross products, and for the rows of a sheet.
use Prim.Native.Nat.{ℕ, zero, suc, ◌*◌, ◌≤◌, ◌<◌}
use mathlib.Core.Path.{◌≡◌, refl}
use mathlib.Core.Logic.{⊎_elim}
use mathlib.Core.Bool.{Bool, true, false, cond}
use native.Mathlib.Omega.{arith}
use native.Mathlib.Nat.{mul-le-mul_left, mul-le-mul_right, le_of_mul-le-mul_left}
use lib.ListN.{length}
use borrow.Author.Tests.{le-leb, leb-true}
use Rattle.model.specs.Traces.{Trace, size_of, swap_of, unreferenced}
use Rattle.model.specs.Costs.{keeps}
use Rattle.model.specs.Figures.{is_reuse, retention_of, kept, misses, volume, load, optmem}
use Rattle.model.specs.Sheets.{SheetValue, Valid, trace_of, row_at, row_optmem, row_load}
use Rattle.model.proofs.Sums.{last-or-below}
use Rattle.model.proofs.Loads.{over_touches-le}

-- what is within one threshold is within a higher one: R / w ≤ h₁ / d₁ ≤ h₂ / d₂, by cross products
pub cross-trans : (h₁ d₁ h₂ d₂ R w : ℕ) → 1 ≤ d₁ → h₁ * d₂ ≤ h₂ * d₁ → d₁ * R ≤ h₁ * w → d₂ * R ≤ h₂ * w
cross-trans h₁ d₁ h₂ d₂ R w pos cross le =
    le_of_mul-le-mul_left {k = d₁} (omega (arith, mul-le-mul_left d₂ le, mul-le-mul_right w cross)) pos

module _ (T : Trace) (h₁ d₁ h₂ d₂ : ℕ) (pos : 1 ≤ d₁) (cross : h₁ * d₂ ≤ h₂ * d₁) where
  -- what is kept at the lower threshold is kept at the higher
  pub kept-later : (t i : ℕ) → kept T h₁ d₁ t i ≡ true → kept T h₂ d₂ t i ≡ true
  unfolding kept
  kept-later t i = go (is_reuse (unreferenced T t i)) (retention_of T t i) (swap_of T i)
    where
      go : (b : Bool) (R w : ℕ) → cond b (keeps (d₁ * R) (h₁ * w)) false ≡ true → cond b (keeps (d₂ * R) (h₂ * w)) false ≡ true
      go true R w e = le-leb (d₂ * R) (h₂ * w) (cross-trans h₁ d₁ h₂ d₂ R w pos cross (leb-true (d₁ * R) (h₁ * w) e))
      go false R w e = e

  -- what each kept reuse adds rises, and what each miss adds falls
  kept-adds : (t i x : ℕ) → cond (kept T h₁ d₁ t i) x 0 ≤ cond (kept T h₂ d₂ t i) x 0
  kept-adds t i x = go (kept T h₁ d₁ t i) (kept T h₂ d₂ t i) (kept-later t i)
    where
      go : (p q : Bool) → (p ≡ true → q ≡ true) → cond p x 0 ≤ cond q x 0
      go true q e = rw (e refl) (omega arith)
      go false q e = omega arith

  miss-adds : (t i x : ℕ) → cond (kept T h₂ d₂ t i) 0 x ≤ cond (kept T h₁ d₁ t i) 0 x
  miss-adds t i x = go (kept T h₁ d₁ t i) (kept T h₂ d₂ t i) (kept-later t i)
    where
      go : (p q : Bool) → (p ≡ true → q ≡ true) → cond q 0 x ≤ cond p 0 x
      go true q e = rw (e refl) (omega arith)
      go false true e = omega arith
      go false false e = omega arith

  pub misses-fall : misses T h₂ d₂ ≤ misses T h₁ d₁
  unfolding misses
  misses-fall =
      over_touches-le T (λ t i. cond (kept T h₂ d₂ t i) 0 1) (λ t i. cond (kept T h₁ d₁ t i) 0 1) (λ t i. miss-adds t i 1)

  pub volume-falls : volume T h₂ d₂ ≤ volume T h₁ d₁
  unfolding volume
  volume-falls =
      over_touches-le T (λ t i. cond (kept T h₂ d₂ t i) 0 (size_of T i)) (λ t i. cond (kept T h₁ d₁ t i) 0 (size_of T i))
      (λ t i. miss-adds t i (size_of T i))

  pub load-falls : load T h₂ d₂ ≤ load T h₁ d₁
  unfolding load
  load-falls = omega (arith, misses-fall, mul-le-mul_left T.a volume-falls)

  pub optmem-rises : optmem T h₁ d₁ ≤ optmem T h₂ d₂
  unfolding optmem
  optmem-rises =
      omega (
        arith,
        over_touches-le T (λ t i. cond (kept T h₁ d₁ t i) (retention_of T t i) 0) (λ t i. cond (kept T h₂ d₂ t i) (retention_of T t i) 0)
            (λ t i. kept-adds t i (retention_of T t i)),
      )

-- the thresholds of rows q ≤ r, by cross products
pub rows-cross : (s : SheetValue) → Valid s → (q r : ℕ) → q ≤ r → r < length s.head.rows
    → (row_at s q).h * (row_at s r).d ≤ (row_at s r).h * (row_at s q).d
rows-cross s v q zero le lt = let same : q ≡ 0 = omega arith in rw same (omega arith)
rows-cross s v q (suc r) le lt =
    ⊎_elim
    (λ e. rw e (omega arith))
    (λ l.
    let before = rows-cross s v q r (omega arith) (omega arith) in
    let up = v.rows.ascending r lt in
    omega (
      arith,
      cross-trans (row_at s r).h (row_at s r).d (row_at s (suc r)).h (row_at s (suc r)).d (row_at s q).h (row_at s q).d
          (v.rows.some_d r (omega arith)) (omega arith) (omega arith),
    ))
    (last-or-below (suc r) q (omega arith))

module _ (s : SheetValue) (v : Valid s) (q r : ℕ) (le : q ≤ r) (lt : r < length s.head.rows) where
  -- row q has a price of memory
  positive : 1 ≤ (row_at s q).d
  positive = v.rows.some_d q (omega arith)

  -- what row q keeps, each later row keeps
  pub rows-kept-later : (t i : ℕ) → kept (trace_of s) (row_at s q).h (row_at s q).d t i ≡ true
      → kept (trace_of s) (row_at s r).h (row_at s r).d t i ≡ true
  rows-kept-later =
      kept-later (trace_of s) (row_at s q).h (row_at s q).d (row_at s r).h (row_at s r).d positive (rows-cross s v q r le lt)

  pub rows-optmem-rises : row_optmem s q ≤ row_optmem s r
  rows-optmem-rises =
      optmem-rises (trace_of s) (row_at s q).h (row_at s q).d (row_at s r).h (row_at s r).d positive (rows-cross s v q r le lt)

  pub rows-load-falls : row_load s r ≤ row_load s q
  rows-load-falls =
      load-falls (trace_of s) (row_at s q).h (row_at s q).d (row_at s r).h (row_at s r).d positive (rows-cross s v q r le lt)
