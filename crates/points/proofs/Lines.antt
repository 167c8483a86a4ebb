-- Neighbouring points: the later has more memory and less load, and every permitted schedule lies on or above the line through both. At the
-- prices of the later threshold both have the same total, which is the least.
use Prim.Native.Nat.{ℕ, zero, suc, ◌+◌, ◌-◌, ◌*◌, ◌≤◌, ◌<◌}
use mathlib.Core.Path.{◌≡◌, refl, ap, sym, ◌∙◌}
use mathlib.Core.Bool.{Bool, true, false, cond, ◌&&◌}
use mathlib.Core.Logic.{◌⊎◌, inl, inr, ⊎_elim}
use mathlib.Core.List.{List}
use native.Mathlib.Omega.{arith}
use native.Mathlib.Nat.{mul-le-mul_left, le_of_mul-le-mul_left, lt_of_mul-lt-mul_left, mul-lt-mul_of_pos_left, mul-sub}
use lib.Dec.{ltb}
use lib.ListN.{length}
use borrow.Author.Tests.{le-leb, lt-leb, ltb-true}
use Rattle.model.specs.Costs.{total_cost}
use Rattle.model.specs.Traces.{Trace, segs, steps, entry, touched, touching, swap_of, unreferenced}
use Rattle.model.specs.Figures.{is_reuse, retention_of, kept, optmem, opttotal}
use Rattle.model.specs.Schedules.{Permitted, schedule_memory, schedule_load, schedule_total}
use Rattle.model.proofs.Sums.{last-or-below, sum_lt}
use Rattle.model.proofs.Touches.{touched-at, entry-touched}
use Rattle.model.proofs.Loads.{over_touches-eq, over_touches-total, touching-le, load-swaps}
use Rattle.model.proofs.Ascent.{cross-trans, kept-later}
use Rattle.model.proofs.LowerBound.{schedule-lower-bound}
use Rattle.points.specs.Points.{Ratio, reuses, ratio_at, thresholds, threshold_at, point_memory, point_load}
use Rattle.points.specs.Points.{LessRatio, EqualRatio, Earliest}
use Rattle.points.proofs.Lists.{below-same}
use Rattle.points.proofs.Thresholds.{ratio-positive, thresholds-positive, thresholds-ascending, thresholds-of-run}
use Rattle.points.proofs.Between.{Within, Later, side, kept-ratio}

-- a touch costs the same kept and not where it is kept in both, or in none, or where both cost the same
costs-same : (h d R w : ℕ) (p q : Bool) → (p ≡ q) ⊎ (d * R ≡ h * w)
    → total_cost h d (cond p R 0) (cond p 0 w) ≡ total_cost h d (cond q R 0) (cond q 0 w)
costs-same h d R w p q (inl e) = rw e
costs-same h d R w true true (inr e) = refl
costs-same h d R w true false (inr e) = omega (arith, e)
costs-same h d R w false true (inr e) = omega (arith, e)
costs-same h d R w false false (inr e) = refl

above-none : (a b c : ℕ) → c < a * b → 0 < a
above-none zero b c lt = absurd (omega arith)
above-none (suc a) b c lt = omega arith

within-equal : (p q : Ratio) → p ≡ q → Within q p
within-equal p q e = rw (← e) (omega arith)

below_equal : (p q r : Ratio) → q ≡ r → LessRatio p q → LessRatio p r
below_equal p q r e b = rw (← e) b

-- A, B: the differences of two points of one total w × M + R × L; a point with no smaller total lies on or above their line
line : (A B M₁ L₁ M L R w : ℕ) → 1 ≤ w → w * A ≡ R * B → w * M₁ + R * L₁ ≤ w * M + R * L → A * L₁ + B * M₁ ≤ A * L + B * M
line A B M₁ L₁ M L R w pos e bound =
    le_of_mul-le-mul_left {k = w}
    (omega (arith, ap (λ (x : ℕ). L₁ * x) e, ap (λ (x : ℕ). L * x) e, mul-le-mul_left B bound)) pos

differences : (M₁ L₁ M₂ L₂ R w : ℕ) → M₁ ≤ M₂ → L₂ ≤ L₁ → w * M₁ + R * L₁ ≡ w * M₂ + R * L₂ → w * (M₂ - M₁) ≡ R * (L₁ - L₂)
differences M₁ L₁ M₂ L₂ R w m l e =
    omega (arith, e, mul-sub w M₂ M₁, mul-sub R L₁ L₂, mul-le-mul_left w m, mul-le-mul_left R l)

-- what is within a threshold is kept at it, and what is above is not
module _ (T : Trace) (p : Ratio) (t i : ℕ) (li : i < segs T) (m : touched T t i ≡ true) where
  pub kept-within : reuses T t ≡ true → Within (ratio_at T t) p → kept T p.R p.w t i ≡ true
  kept-within r q =
      kept-ratio T p.R p.w t i m li
      ∙ rw r (le-leb (p.w * (ratio_at T t).R) (p.R * (ratio_at T t).w) (omega (arith, q)))

  pub kept_above : LessRatio p (ratio_at T t) → kept T p.R p.w t i ≡ false
  kept_above q =
      kept-ratio T p.R p.w t i m li
      ∙ (rw (lt-leb (p.w * (ratio_at T t).R) (p.R * (ratio_at T t).w) (omega (arith, q))) (both (reuses T t)))
    where
      both : (b : Bool) → cond b false false ≡ false
      both true = refl
      both false = refl

  pub kept-first : reuses T t ≡ false → kept T p.R p.w t i ≡ false
  kept-first r = kept-ratio T p.R p.w t i m li ∙ rw r

module _ (T : Trace) (k : ℕ) (l : suc k < length (thresholds T)) where
  -- the two thresholds
  abbrev low : Ratio
  low = threshold_at T k

  abbrev high : Ratio
  high = threshold_at T (suc k)

  ascends : LessRatio low high
  ascends = thresholds-ascending T k (suc k) (omega arith) l

  low-positive : 1 ≤ low.w
  low-positive = thresholds-positive T k (omega arith)

  high-positive : 1 ≤ high.w
  high-positive = thresholds-positive T (suc k) l

  -- a touch is decided the same way at both, or has the ratio of the higher
  touch-cases : (t i : ℕ) → t < steps T → i < segs T → touched T t i ≡ true
      → (kept T low.R low.w t i ≡ kept T high.R high.w t i) ⊎ (high.w * retention_of T t i ≡ high.R * swap_of T i)
  touch-cases t i lt li m = go (reuses T t) refl
    where
      first_one : reuses T t ≡ false → kept T low.R low.w t i ≡ kept T high.R high.w t i
      first_one e = kept-first T low t i li m e ∙ sym (kept-first T high t i li m e)

      keep : reuses T t ≡ true → Within (ratio_at T t) low → kept T low.R low.w t i ≡ kept T high.R high.w t i
      keep r q =
          kept-within T low t i li m r q
          ∙ sym (kept-within T high t i li m r
          (omega (
            arith,
            cross-trans low.R low.w high.R high.w (ratio_at T t).R (ratio_at T t).w low-positive
                (omega (arith, ascends)) (omega (arith, q)),
          )))

      above : (p : Ratio) (j : ℕ) → j < length (thresholds T) → EqualRatio (threshold_at T j) (ratio_at T t)
          → LessRatio p (threshold_at T j)
          → LessRatio p (ratio_at T t)
      above p j lj e b = below-same p (threshold_at T j) (ratio_at T t) (thresholds-positive T j lj) (ratio-positive T t) b e

      equal : EqualRatio high (ratio_at T t) → high.w * retention_of T t i ≡ high.R * swap_of T i
      equal e =
          let cross : high.w * (ratio_at T t).R ≡ high.R * (ratio_at T t).w = omega (arith, e) in
          rw (entry-touched T t i m) at cross

      drop : Later T k (ratio_at T t)
          → (kept T low.R low.w t i ≡ kept T high.R high.w t i) ⊎ (high.w * retention_of T t i ≡ high.R * swap_of T i)
      drop q =
          ⊎_elim
          (λ e. inr (equal (rw (← e) at q.equal)))
          (λ lo. inl (kept_above T low t i li m (above low q.at q.there q.equal
          (thresholds-ascending T k q.at q.above q.there))
          ∙ sym (kept_above T high t i li m (above high q.at q.there q.equal
          (thresholds-ascending T (suc k) q.at lo q.there)))))
          (last-or-below q.at (suc k) (omega (arith, q.above)))

      go : (b : Bool) → reuses T t ≡ b
          → (kept T low.R low.w t i ≡ kept T high.R high.w t i) ⊎ (high.w * retention_of T t i ≡ high.R * swap_of T i)
      go false e = inl (first_one e)
      go true e = ⊎_elim (λ q. inl (keep e q)) drop (side T t k lt e (omega arith))

  -- at the prices of the higher threshold both points have the same total
  pub balance : high.w * point_memory T k + high.R * point_load T k ≡ high.w * point_memory T (suc k) + high.R * point_load T (suc k)
  unfolding optmem
  balance =
      let m₁ : ℕ → ℕ → ℕ = λ t i. cond (kept T low.R low.w t i) (retention_of T t i) 0 in
      let l₁ : ℕ → ℕ → ℕ = λ t i. cond (kept T low.R low.w t i) 0 (swap_of T i) in
      let m₂ : ℕ → ℕ → ℕ = λ t i. cond (kept T high.R high.w t i) (retention_of T t i) 0 in
      let l₂ : ℕ → ℕ → ℕ = λ t i. cond (kept T high.R high.w t i) 0 (swap_of T i) in
      omega (
        arith,
        ap (λ (x : ℕ). high.R * x) (load-swaps T low.R low.w),
        ap (λ (x : ℕ). high.R * x) (load-swaps T high.R high.w),
        over_touches-total T high.R high.w m₁ l₁,
        over_touches-total T high.R high.w m₂ l₂,
        over_touches-eq T (λ t i. total_cost high.R high.w (m₁ t i) (l₁ t i)) (λ t i. total_cost high.R high.w (m₂ t i) (l₂ t i))
            (λ t i lt li m. costs-same high.R high.w (retention_of T t i) (swap_of T i) (kept T low.R low.w t i)
            (kept T high.R high.w t i)
            (touch-cases t i lt li m)),
      )

  -- the higher threshold is above 0, and the ratio of a reuse
  high-reuse : Earliest T (steps T) high
  high-reuse =
      ⊎_elim
      (λ e. absurd (omega (arith, ascends, ap (λ (x : Ratio). x.R * low.w) e.is_zero)))
      (λ e. e)
      (thresholds-of-run T (suc k) l)

  -- what a touch adds to the load at the higher threshold is within what it adds at the lower
  miss-le : (t i : ℕ) → cond (kept T high.R high.w t i) 0 (swap_of T i) ≤ cond (kept T low.R low.w t i) 0 (swap_of T i)
  miss-le t i =
      go (kept T low.R low.w t i) (kept T high.R high.w t i)
      (kept-later T low.R low.w high.R high.w low-positive (omega (arith, ascends)) t i)
    where
      go : (p q : Bool) → (p ≡ true → q ≡ true) → cond q 0 (swap_of T i) ≤ cond p 0 (swap_of T i)
      go true q e = rw (e refl) (omega arith)
      go false true e = omega arith
      go false false e = omega arith

  pub load_drops : point_load T (suc k) < point_load T k
  unfolding touching
  load_drops =
      let s = high-reuse in
      rw (load-swaps T low.R low.w, load-swaps T high.R high.w)
      (sum_lt (steps T) s.step (touching T (λ t i. cond (kept T high.R high.w t i) 0 (swap_of T i)))
      (touching T (λ t i. cond (kept T low.R low.w t i) 0 (swap_of T i))) s.before
      (λ t lt. touching-le T (λ t i. cond (kept T high.R high.w t i) 0 (swap_of T i))
      (λ t i. cond (kept T low.R low.w t i) 0 (swap_of T i)) t (λ i li m. miss-le t i))
      (at s.step s.reuse s.exact))
    where
      left : (a b : Bool) → a && b ≡ true → a ≡ true
      left true b e = refl
      left false b e = e

      at : (t : ℕ) → reuses T t ≡ true → high ≡ ratio_at T t
          → cond (ltb (entry T t) (segs T)) (cond (kept T high.R high.w t (entry T t)) 0 (swap_of T (entry T t))) 0
          < cond (ltb (entry T t) (segs T)) (cond (kept T low.R low.w t (entry T t)) 0 (swap_of T (entry T t))) 0
      at t r e =
          let f = left (ltb (entry T t) (segs T)) (is_reuse (unreferenced T t (entry T t))) r in
          let lt = ltb-true (entry T t) (segs T) f in
          rw (
            f,
            kept-within T high t (entry T t) lt (touched-at T t lt) r (within-equal high (ratio_at T t) e),
            kept_above T low t (entry T t) lt (touched-at T t lt) (below_equal low high (ratio_at T t) e ascends),
          ) (omega arith)

  pub memory_rises : point_memory T k < point_memory T (suc k)
  memory_rises =
      lt_of_mul-lt-mul_left high.w
      (omega (arith, balance, mul-lt-mul_of_pos_left {k = high.R} load_drops (above-none high.R low.w (low.R * high.w) ascends)))

  -- every permitted schedule lies on or above the line through the two points
  module _ (p : List ℕ) (ok : Permitted T p) (few : segs T ≤ 256) where
    -- at the prices of the higher threshold its total is at least that of both points
    total-least : high.w * point_memory T k + high.R * point_load T k ≤ high.w * schedule_memory T p + high.R * schedule_load T p
    unfolding opttotal schedule_total
    total-least = omega (arith, balance, schedule-lower-bound T high.R high.w p ok few)

    pub on-or-above :
        (point_memory T (suc k) - point_memory T k) * point_load T k + (point_load T k - point_load T (suc k)) * point_memory T k
        ≤ (point_memory T (suc k) - point_memory T k) * schedule_load T p + (point_load T k - point_load T (suc k)) * schedule_memory T p
    on-or-above =
        line (point_memory T (suc k) - point_memory T k) (point_load T k - point_load T (suc k)) (point_memory T k) (point_load T k)
        (schedule_memory T p)
        (schedule_load T p) high.R high.w high-positive
        (differences (point_memory T k) (point_load T k) (point_memory T (suc k)) (point_load T (suc k)) high.R high.w
        (omega (arith, memory_rises)) (omega (arith, load_drops)) balance) total-least
