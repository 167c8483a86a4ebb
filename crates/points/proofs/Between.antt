-- Between neighbouring thresholds the keep decisions do not change: at prices from one threshold on and below the next, the same reuses are
-- kept, so optmem and load are those of the point.
use Prim.Native.Nat.{ℕ, zero, suc, pred, ◌+◌, ◌*◌, ◌≤◌, ◌<◌}
use mathlib.Core.Path.{◌≡◌, refl, ap, sym, ◌∙◌}
use mathlib.Core.Bool.{Bool, true, false, cond}
use mathlib.Core.Logic.{◌⊎◌, inl, inr, ⊎_elim}
use native.Mathlib.Omega.{arith}
use lib.Dec.{ltb, leb}
use lib.ListN.{length}
use borrow.Author.Tests.{leb-true, leb-false, le-leb, lt-leb, lt-ltb, ltb-true, ltb-false}
use Rattle.model.specs.Traces.{Trace, segs, steps, touched, swap_of}
use Rattle.model.specs.Figures.{retention_of, kept, ref_cost, optmem, load}
use Rattle.model.proofs.Sums.{last-or-below}
use Rattle.model.proofs.Touches.{entry-touched}
use Rattle.model.proofs.Loads.{over_touches-eq, load-swaps}
use Rattle.model.proofs.Ascent.{cross-trans}
use Rattle.points.specs.Points.{Ratio, reuses, ratio_at, thresholds, threshold_at, point_memory, point_load, LessRatio, EqualRatio}
use Rattle.points.specs.Curve.{FromThreshold}
use Rattle.points.proofs.Lists.{below-trans, below-same}
use Rattle.points.proofs.Thresholds.{ratio-positive, thresholds-positive, thresholds-ascending, thresholds-have, thresholds-first}

-- a ratio is that of threshold k or of an earlier one, or that of a later one
abbrev pub Within : Ratio → Ratio → Type 0
Within p q = p.R * q.w ≤ q.R * p.w

pub record Later (T : Trace) (k : ℕ) (x : Ratio) : Type 0 where
  pub at : ℕ
  pub above : k < at
  pub there : at < length (thresholds T)
  pub equal : EqualRatio (threshold_at T at) x

module _ (T : Trace) where
  -- what is below a threshold is below every later one
  pub below_later : (q : Ratio) (k j : ℕ) → k ≤ j → j < length (thresholds T) → LessRatio q (threshold_at T k)
      → LessRatio q (threshold_at T j)
  below_later q k j le lt b =
      ⊎_elim (λ e. rw (← e) b)
      (λ l. below-trans q (threshold_at T k) (threshold_at T j) (thresholds-positive T k (omega arith)) (thresholds-positive T j lt) b
      (thresholds-ascending T k j l lt)) (last-or-below j k (omega arith))

  pub side : (t k : ℕ) → t < steps T → reuses T t ≡ true → k < length (thresholds T)
      → Within (ratio_at T t) (threshold_at T k) ⊎ Later T k (ratio_at T t)
  side t k lt r l =
      let h = thresholds-have T t lt r in
      let j = h.place in
      go j h.within h.equal (ltb k j) refl
    where
      go : (j : ℕ) → j < length (thresholds T) → EqualRatio (threshold_at T j) (ratio_at T t) → (b : Bool) → ltb k j ≡ b
          → Within (ratio_at T t) (threshold_at T k) ⊎ Later T k (ratio_at T t)
      go j lj e true f = inr (record { at = j; above = ltb-true k j f; there = lj; equal = e })
      go j lj e false f =
          inl (⊎_elim (λ q. rw (← q) (omega (arith, e)))
          (λ lo. omega (
            arith,
            cross-trans (threshold_at T j).R (threshold_at T j).w (threshold_at T k).R (threshold_at T k).w (ratio_at T t).R
                (ratio_at T t).w
                (thresholds-positive T j lj) (omega (arith, thresholds-ascending T j k lo l)) (omega (arith, e)),
          ))
          (last-or-below k j (omega (arith, ltb-false k j f))))

  -- prices, and the greatest of the first n + 1 thresholds not above them
  record Found (h d n : ℕ) : Type 0 where
    place : ℕ
    within : place ≤ n
    from : (threshold_at T place).R * d ≤ h * (threshold_at T place).w
    to : place < n → h * (threshold_at T (suc place)).w < (threshold_at T (suc place)).R * d

  find : (h d n : ℕ) → Found h d n
  find h d zero =
      record {
        place = 0;
        within = omega arith;
        from = rw (thresholds-first T).zero_first (omega arith);
        to = λ lt. absurd (omega arith);
      }
  find h d (suc n) = go (find h d n) (leb ((threshold_at T (suc n)).R * d) (h * (threshold_at T (suc n)).w)) refl
    where
      go : Found h d n → (b : Bool) → leb ((threshold_at T (suc n)).R * d) (h * (threshold_at T (suc n)).w) ≡ b → Found h d (suc n)
      go f true e =
          record {
            place = suc n;
            within = omega arith;
            from = leb-true ((threshold_at T (suc n)).R * d) (h * (threshold_at T (suc n)).w) e;
            to = λ lt. absurd (omega arith);
          }
      go f false e =
          record {
            place = f.place;
            within = omega (arith, f.within);
            from = f.from;
            to =
                λ lt. ⊎_elim
                (λ q. rw q (leb-false ((threshold_at T (suc n)).R * d) (h * (threshold_at T (suc n)).w) e))
                f.to
                (last-or-below n f.place lt);
          }

  pub found : (h d : ℕ) → 1 ≤ d → (k : ℕ) × FromThreshold T k h d
  found h d price =
      let n = pred (length (thresholds T)) in
      let f = find h d n in
      let some_entry = (thresholds-first T).some_entry in (
        f.place,
        record {
          there = omega (arith, f.within);
          price = price;
          from = f.from;
          to = λ lt. f.to (omega arith);
        },
      )

  -- the keep test of a touch by its ratio
  pub kept-ratio : (h d t i : ℕ) → touched T t i ≡ true → i < segs T
      → kept T h d t i ≡ cond (reuses T t) (leb (d * (ratio_at T t).R) (h * (ratio_at T t).w)) false
  unfolding kept
  kept-ratio h d t i m l = rw (entry-touched T t i m, lt-ltb i (segs T) l)

  -- prices of at least threshold k, and below the next where there is one
  module _ (k h d : ℕ) (l : k < length (thresholds T)) (price : 1 ≤ d) (from : (threshold_at T k).R * d ≤ h * (threshold_at T k).w)
      (to : suc k < length (thresholds T) → h * (threshold_at T (suc k)).w < (threshold_at T (suc k)).R * d) where
    pub kept-between : (t i : ℕ) → t < steps T → i < segs T → touched T t i ≡ true
        → kept T h d t i ≡ kept T (threshold_at T k).R (threshold_at T k).w t i
    kept-between t i lt li m =
        kept-ratio h d t i m li
        ∙ (go (reuses T t) refl ∙ sym (kept-ratio (threshold_at T k).R (threshold_at T k).w t i m li))
      where
        -- the ratio is within threshold k: kept by both
        keep : Within (ratio_at T t) (threshold_at T k)
            → leb (d * (ratio_at T t).R) (h * (ratio_at T t).w) ≡ leb ((threshold_at T k).w * (ratio_at T t).R)
            ((threshold_at T k).R * (ratio_at T t).w)
        keep q =
            le-leb (d * (ratio_at T t).R) (h * (ratio_at T t).w)
            (cross-trans (threshold_at T k).R (threshold_at T k).w h d (ratio_at T t).R (ratio_at T t).w (thresholds-positive T k l) from
            (omega (arith, q)))
            ∙ sym (le-leb ((threshold_at T k).w * (ratio_at T t).R) ((threshold_at T k).R * (ratio_at T t).w) (omega (arith, q)))

        -- it is that of a later threshold: kept by neither
        drop : Later T k (ratio_at T t)
            → leb (d * (ratio_at T t).R) (h * (ratio_at T t).w) ≡ leb ((threshold_at T k).w * (ratio_at T t).R)
            ((threshold_at T k).R * (ratio_at T t).w)
        drop q =
            let price-below : LessRatio (record { R = h; w = d }) (threshold_at T q.at) =
            below_later (record { R = h; w = d }) (suc k) q.at q.above q.there (to (omega (arith, q.above, q.there)))
            in
            lt-leb (d * (ratio_at T t).R) (h * (ratio_at T t).w)
            (omega (
              arith,
              below-same (record { R = h; w = d }) (threshold_at T q.at) (ratio_at T t) (thresholds-positive T q.at q.there)
                  (ratio-positive T t) price-below q.equal,
            ))
            ∙ sym (lt-leb ((threshold_at T k).w * (ratio_at T t).R) ((threshold_at T k).R * (ratio_at T t).w)
            (omega (
              arith,
              below-same (threshold_at T k) (threshold_at T q.at) (ratio_at T t) (thresholds-positive T q.at q.there)
                  (ratio-positive T t) (thresholds-ascending T k q.at q.above q.there) q.equal,
            )))

        go : (b : Bool) → reuses T t ≡ b
            → cond (reuses T t) (leb (d * (ratio_at T t).R) (h * (ratio_at T t).w)) false
            ≡ cond (reuses T t) (leb ((threshold_at T k).w * (ratio_at T t).R) ((threshold_at T k).R * (ratio_at T t).w)) false
        go false e = rw e
        go true e = rw e (⊎_elim keep drop (side t k lt e l))

    -- so are optmem and load
    pub memory-between : optmem T h d ≡ point_memory T k
    unfolding optmem
    memory-between =
        ap (λ (x : ℕ). ref_cost T + x)
        (over_touches-eq T (λ t i. cond (kept T h d t i) (retention_of T t i) 0)
        (λ t i. cond (kept T (threshold_at T k).R (threshold_at T k).w t i) (retention_of T t i) 0)
        (λ t i lt li m. rw (kept-between t i lt li m)))

    pub load_between : load T h d ≡ point_load T k
    load_between =
        load-swaps T h d
        ∙ (over_touches-eq T (λ t i. cond (kept T h d t i) 0 (swap_of T i))
        (λ t i. cond (kept T (threshold_at T k).R (threshold_at T k).w t i) 0 (swap_of T i))
        (λ t i lt li m. rw (kept-between t i lt li m))
        ∙ sym (load-swaps T (threshold_at T k).R (threshold_at T k).w))
