-- The smaller of d × R and h × w, added over all reuses and end intervals, from sums of R and of w alone: d × R of what is kept, and
-- h × w of all touches and of the start set but what is kept. For this the start set and the first touches of other segments stand for
-- the end intervals: each segment that counts as touched has one of them and one end interval.
use Prim.Native.Nat.{ℕ, ◌+◌, ◌*◌, ◌≤◌, min}
use mathlib.Core.Path.{◌≡◌, refl, ap}
use mathlib.Core.Bool.{Bool, true, false, cond}
use native.Mathlib.Omega.{arith}
use lib.Dec.{leb}
use borrow.Author.Tests.{leb-true, leb-false}
use Rattle.model.specs.Costs.{keeps, total_cost}
use Rattle.model.specs.Traces.{Trace, segs, steps, size_of, swap_of, over_touches, over_segments, unreferenced}
use Rattle.model.specs.Figures.{is_reuse, retention_of, kept, smaller}
use Rattle.model.proofs.Sums.{sum-eq, sum-le}
use Rattle.model.proofs.FirstTouches.{started, first-touches-from}
use Rattle.model.proofs.Loads.{sum-total, over_touches-eq, over_touches-le, over_touches-total}

-- what the touches where p holds add, and what the others add, is what all add
pub touches-split : (T : Trace) (p : ℕ → ℕ → Bool) (g : ℕ → ℕ → ℕ)
    → over_touches T (λ t i. cond (p t i) (g t i) 0) + over_touches T (λ t i. cond (p t i) 0 (g t i)) ≡ over_touches T g
touches-split T p g =
    let these : ℕ → ℕ → ℕ = λ t i. cond (p t i) (g t i) 0 in
    let others : ℕ → ℕ → ℕ = λ t i. cond (p t i) 0 (g t i) in
    omega (
      arith,
      over_touches-total T 1 1 these others,
      over_touches-eq T (λ t i. total_cost 1 1 (these t i) (others t i)) g (λ t i lt l touch. both (p t i) (g t i)),
    )
  where
    both : (b : Bool) (x : ℕ) → 1 * cond b x 0 + 1 * cond b 0 x ≡ x
    both true x = omega arith
    both false x = omega arith

-- the smaller value as d × R where it is kept, and h × w where it is not, written without a difference
priced : (b : Bool) (h d R w : ℕ)
    → cond b (min (d * R) (h * w)) 0 + h * cond (cond b (keeps (d * R) (h * w)) false) w 0
    ≡ d * cond (cond b (keeps (d * R) (h * w)) false) R 0 + h * cond b w 0
priced true h d R w = go (leb (d * R) (h * w)) refl
  where
    go : (k : Bool) → keeps (d * R) (h * w) ≡ k
        → min (d * R) (h * w) + h * cond (keeps (d * R) (h * w)) w 0 ≡ d * cond (keeps (d * R) (h * w)) R 0 + h * w
    go true e = rw e (omega (arith, leb-true (d * R) (h * w) e))
    go false e = rw e (omega (arith, leb-false (d * R) (h * w) e))
priced false h d R w = omega arith

-- a kept touch is a reuse
kept-reuse : (T : Trace) (h d t i x : ℕ) → cond (kept T h d t i) x 0 ≤ cond (is_reuse (unreferenced T t i)) x 0
unfolding kept
kept-reuse T h d t i x =
    go (is_reuse (unreferenced T t i)) (keeps (d * retention_of T t i) (h * swap_of T i))
  where
    go : (b k : Bool) → cond (cond b k false) x 0 ≤ cond b x 0
    go true true = omega arith
    go true false = omega arith
    go false k = omega arith

-- W of what is kept, and of a reuse
module _ (T : Trace) (h d : ℕ) (W : ℕ → ℕ) where
  abbrev kept_w : ℕ → ℕ → ℕ
  kept_w t i = cond (kept T h d t i) (W i) 0

  abbrev reuse_w : ℕ → ℕ → ℕ
  reuse_w t i = cond (is_reuse (unreferenced T t i)) (W i) 0

  -- W of all touches and of the start set
  abbrev pub all_w : ℕ
  all_w = over_touches T (λ t i. W i) + started T W

  -- W of the reuses and of the end intervals is the same
  reuses-ends : over_touches T reuse_w + over_segments T (reuse_w (steps T)) ≡ all_w
  reuses-ends =
      omega
      (arith, first-touches-from T W (steps T), touches-split T (λ t i. is_reuse (unreferenced T t i)) (λ t i. W i))

  -- so W of what is kept, end intervals included, is within that
  pub kept-swaps-within : over_touches T kept_w + over_segments T (kept_w (steps T)) ≤ all_w
  kept-swaps-within =
      omega (
        arith,
        reuses-ends,
        over_touches-le T kept_w reuse_w (λ t i. kept-reuse T h d t i (W i)),
        sum-le (segs T) (kept_w (steps T)) (reuse_w (steps T)) (λ i lt. kept-reuse T h d (steps T) i (W i)),
      )

-- for a smaller value S, a retention R and a swap cost W
module _ (T : Trace) (h d : ℕ) (W : ℕ → ℕ) (S R : ℕ → ℕ → ℕ) where
  -- S is d × R where it is kept and h × W where it is not
  abbrev Priced : Type 0
  Priced = (t i : ℕ) → S t i + h * kept_w T h d W t i ≡ d * cond (kept T h d t i) (R t i) 0 + h * reuse_w T h d W t i

  -- R of what is kept
  abbrev kept_r : ℕ → ℕ → ℕ
  kept_r t i = cond (kept T h d t i) (R t i) 0

  touches-priced : Priced
      → over_touches T S + h * over_touches T (kept_w T h d W) ≡ d * over_touches T kept_r + h * over_touches T (reuse_w T h d W)
  touches-priced each =
      omega (
        arith,
        over_touches-eq T (λ t i. total_cost h 1 (S t i) (kept_w T h d W t i)) (λ t i. total_cost h d (kept_r t i) (reuse_w T h d W t i))
            (λ t i lt l touch. omega (arith, each t i)),
        over_touches-total T h 1 S (kept_w T h d W),
        over_touches-total T h d kept_r (reuse_w T h d W),
      )

  ends-priced : Priced
      → over_segments T (S (steps T)) + h * over_segments T (kept_w T h d W (steps T))
      ≡ d * over_segments T (kept_r (steps T)) + h * over_segments T (reuse_w T h d W (steps T))
  ends-priced each =
      let n = steps T in
      omega (
        arith,
        sum-eq (segs T) (λ i. total_cost h 1 (S n i) (kept_w T h d W n i)) (λ i. total_cost h d (kept_r n i) (reuse_w T h d W n i))
            (λ i lt. omega (arith, each n i)),
        sum-total h 1 (segs T) (S n) (kept_w T h d W n),
        sum-total h d (segs T) (kept_r n) (reuse_w T h d W n),
      )

  -- S over all touches and end intervals
  pub working-set : Priced
      → over_touches T S + over_segments T
      (S (steps T)) + h * (over_touches T (kept_w T h d W) + over_segments T (kept_w T h d W (steps T)))
      ≡ d * (over_touches T kept_r + over_segments T (kept_r (steps T))) + h * all_w T h d W
  working-set each =
      omega (arith, touches-priced each, ends-priced each, ap (λ w. h * w) (reuses-ends T h d W))

-- the items of wsmem
pub smaller-priced : (T : Trace) (h d t i : ℕ)
    → smaller T h d t i + h * cond (kept T h d t i) (swap_of T i) 0
    ≡ d * cond (kept T h d t i) (retention_of T t i) 0 + h * cond (is_reuse (unreferenced T t i)) (swap_of T i) 0
unfolding smaller kept
smaller-priced T h d t i = priced (is_reuse (unreferenced T t i)) h d (retention_of T t i) (swap_of T i)

-- and those with each multiplied by z
pub sized-priced : (T : Trace) (h d t i : ℕ)
    → size_of T i * smaller T h d t i + h * cond (kept T h d t i) (swap_of T i * size_of T i) 0
    ≡ d * cond (kept T h d t i) (retention_of T t i * size_of T i) 0 + h * cond (is_reuse (unreferenced T t i))
    (swap_of T i * size_of T i) 0
sized-priced T h d t i =
    go (kept T h d t i) (is_reuse (unreferenced T t i)) (smaller T h d t i) (retention_of T t i) (swap_of T i) (size_of T i)
    (smaller-priced T h d t i)
  where
    go : (k b : Bool) (S R w z : ℕ) → S + h * cond k w 0 ≡ d * cond k R 0 + h * cond b w 0
        → z * S + h * cond k (w * z) 0 ≡ d * cond k (R * z) 0 + h * cond b (w * z) 0
    go true true S R w z e = omega (arith, ap (λ n. z * n) e)
    go true false S R w z e = omega (arith, ap (λ n. z * n) e)
    go false true S R w z e = omega (arith, ap (λ n. z * n) e)
    go false false S R w z e = omega (arith, ap (λ n. z * n) e)
