-- How large the sums of a sheet within the limits can be, so that no figure exceeds 64 bits.
use Prim.Native.Nat.{ℕ, ◌+◌, ◌*◌, ◌^◌, ◌≤◌, ◌<◌, min}
use mathlib.Core.Path.{◌≡◌, refl, ap}
use mathlib.Core.Bool.{Bool, true, false, cond}
use mathlib.Core.Option.{Option, none, some}
use mathlib.Core.List.{List}
use Rattle.model.specs.declared.PriceRow.{PriceRow}
use native.Mathlib.Omega.{arith}
use native.Mathlib.Nat.{mul-le-mul_left}
use lib.Dec.{eqb, ltb}
use borrow.Author.Tests.{ltb-true}
use Rattle.model.specs.Sums.{sum}
use Rattle.model.specs.Traces.{Trace, segs, steps, entry, size_of, swap_of, unit_of, touching, over_touches, over_segments, unreferenced}
use Rattle.model.specs.Figures.{ref_cost, ref_volume, is_reuse, of_time, retention_of, space_of, kept, misses, volume, load, optmem}
use Rattle.model.specs.Figures.{smaller, wsmem, wsspace, wsocc}
use Rattle.model.specs.Sheets.{RunWithin, largest_a, most_segs, largest_size, largest_price, most_steps}
use Rattle.model.specs.declared.Kind.{Kind}
use Rattle.model.specs.declared.Kind.TheVariants.{Time, Space}
use Rattle.model.proofs.Sums.{sum-within}
use Rattle.model.proofs.Bounds.{product-within, unit-within}
use Rattle.model.proofs.FirstTouches.{started}
use Rattle.model.proofs.LastTouches.{unreferenced-within}
use Rattle.buckets.specs.Buckets.{bucket_count, bucket_of, filed, ended, bucket_after, tally_of, no_bucket}
use Rattle.buckets.specs.inner.Pass.{Within, Roomy, passed_after, passed_of}
use Rattle.figures.specs.inner.Sweep.{summed, with_start}
use Rattle.figures.specs.inner.OneRow.{by_kind, largest_swap, retention_bound, most_items, Holds}
use Rattle.buckets.specs.declared.Bucket.{Bucket}
use Rattle.model.proofs.Tables.{get_or-tabulate}
use Rattle.figures.proofs.Filed.{filed-below, ended-below}
use Rattle.figures.proofs.Starts.{start_set}
use Rattle.figures.proofs.Sweeps.{bucket_by, space-of, summed-buckets, summed-ends}

-- one of two numbers, or one that may be left out
either-within : (b : Bool) (x y m : ℕ) → x ≤ m → y ≤ m → cond b x y ≤ m
either-within true x y m l r = l
either-within false x y m l r = r

left_out : (b : Bool) (x m : ℕ) → x ≤ m → cond b x 0 ≤ m
left_out b x m le = either-within b x 0 m le (omega arith)

-- a sum over touches of terms within m
pub touches-within : (T : Trace) (m : ℕ) (g : ℕ → ℕ → ℕ) → ((t i : ℕ) → t < steps T → i < segs T → g t i ≤ m)
    → over_touches T g ≤ steps T * m
unfolding touching
touches-within T m g le = sum-within (steps T) m (touching T g) (λ t lt. go t lt (ltb (entry T t) (segs T)) refl)
  where
    go : (t : ℕ) → t < steps T → (b : Bool) → ltb (entry T t) (segs T) ≡ b → cond (ltb (entry T t) (segs T)) (g t (entry T t)) 0 ≤ m
    go t lt true e = rw e (le t (entry T t) lt (ltb-true (entry T t) (segs T) e))
    go t lt false e = rw e (omega arith)

module _ (T : Trace) (run : RunWithin T) where
  pub units-within : (i : ℕ) → i < segs T → unit_of T i ≤ largest_size
  units-within i lt = unit-within T.kind (size_of T i) largest_size (omega arith) (run.size_within i lt)

  swap_within : (i : ℕ) → i < segs T → swap_of T i ≤ largest_swap
  swap_within i lt =
      omega (arith, product-within T.a (size_of T i) largest_a largest_size run.a_within (run.size_within i lt))

  -- the unreferenced time, each step counted with at most the largest size
  times-within : (t i x : ℕ) → t ≤ most_steps → x ≤ largest_size → of_time (λ k. k * x) (unreferenced T t i) ≤ retention_bound
  times-within t i x le fit = go (unreferenced T t i) (unreferenced-within T t i)
    where
      go : (o : Option ℕ) → ((k : ℕ) → o ≡ some k → k ≤ t) → of_time (λ k. k * x) o ≤ retention_bound
      go none below = omega arith
      go (some k) below = product-within k x most_steps largest_size (omega (arith, below k refl)) fit

  retention_within : (t i : ℕ) → t ≤ most_steps → i < segs T → retention_of T t i ≤ retention_bound
  retention_within t i le lt = times-within t i (unit_of T i) le (units-within i lt)

  -- a bucket whose sums are within n times any bound of the items
  bucket-holds : (n : ℕ) (S : (ℕ → ℕ → ℕ) → ℕ)
      → ((g : ℕ → ℕ → ℕ) (m : ℕ) → ((t i : ℕ) → t ≤ most_steps → i < segs T → g t i ≤ m) → S g ≤ n * m)
      → Holds n (bucket_by T S)
  bucket-holds n S within =
      record {
        counts = omega (arith, within (λ t i. 1) 1 (λ t i le lt. omega arith));
        volumes = within (λ t i. size_of T i) largest_size (λ t i le lt. run.size_within i lt);
        retentions = within (retention_of T) retention_bound retention_within;
        swaps = within (λ t i. swap_of T i) largest_swap (λ t i le lt. swap_within i lt);
        retentionzs =
            within (λ t i. retention_of T t i * size_of T i) (retention_bound * largest_size)
            (λ t i le lt.
            product-within (retention_of T t i) (size_of T i) retention_bound largest_size (retention_within t i le lt)
            (run.size_within i lt));
        swapzs =
            within (λ t i. swap_of T i * size_of T i) (largest_swap * largest_size)
            (λ t i le lt. product-within (swap_of T i) (size_of T i) largest_swap largest_size (swap_within i lt) (run.size_within i lt));
      }

  -- the first n buckets of the touches hold at most 2,048 items
  pub buckets-hold : (rows : List PriceRow) (n : ℕ) → n ≤ bucket_count → Holds most_steps (summed (tally_of rows T).buckets n)
  buckets-hold rows n le =
      rw (summed-buckets rows T n le)
      (bucket-holds most_steps (λ g. sum n (λ k. filed rows T (steps T) k g))
      (λ g m each.
      rw (filed-below rows T (steps T) n g)
      (omega (
        arith,
        touches-within T m (λ t i. cond (ltb (bucket_of rows T t i) n) (g t i) 0)
            (λ t i lt l. left_out (ltb (bucket_of rows T t i) n) (g t i) m (each t i (omega (arith, run.steps_within)) l)),
        product-within (steps T) m most_steps m run.steps_within (omega arith),
      ))))

  -- so has each bucket, and there is room in it
  pub buckets-roomy : (rows : List PriceRow) → Roomy (passed_of rows T).buckets (2 ^ 60)
  unfolding passed_after bucket_after filed
  buckets-roomy rows =
      record {
        each = λ k le.
            rw (get_or-tabulate bucket_count (bucket_after rows T (steps T)) k no_bucket (omega arith))
            (has_room (bucket_after rows T (steps T) k)
            (bucket-holds most_steps (λ g. filed rows T (steps T) k g)
            (λ g m each.
            omega (
              arith,
              touches-within T m (λ t i. cond (eqb (bucket_of rows T t i) k) (g t i) 0)
                  (λ t i lt l. left_out (eqb (bucket_of rows T t i) k) (g t i) m (each t i (omega (arith, run.steps_within)) l)),
              product-within (steps T) m most_steps m run.steps_within (omega arith),
            ))));
      }
    where
      has_room : (b : Bucket) → Holds most_steps b → Within b (2 ^ 60)
      has_room b h = omega arith

  -- those of the end intervals at most 256
  pub ends-hold : (rows : List PriceRow) (n : ℕ) → n ≤ bucket_count → Holds most_segs (summed (tally_of rows T).ends n)
  ends-hold rows n le =
      rw (summed-ends rows T n le)
      (bucket-holds most_segs (λ g. sum n (λ k. ended rows T (segs T) k (g (steps T))))
      (λ g m each.
      rw (ended-below rows T (segs T) n (g (steps T)))
      (omega (
        arith,
        sum-within (segs T) m
            (λ i. cond (is_reuse (unreferenced T (steps T) i)) (cond (ltb (bucket_of rows T (steps T) i) n) (g (steps T) i) 0) 0)
            (λ i lt.
            left_out (is_reuse (unreferenced T (steps T) i)) (cond (ltb (bucket_of rows T (steps T) i) n) (g (steps T) i) 0) m
            (left_out (ltb (bucket_of rows T (steps T) i) n) (g (steps T) i) m (each (steps T) i run.steps_within lt))),
        product-within (segs T) m most_segs m run.segs_within (omega arith),
      ))))

  -- a sum over the start set, which has at most 256 segments
  started-within : (m : ℕ) (g : ℕ → ℕ) → ((i : ℕ) → i < segs T → g i ≤ m) → started T g ≤ most_segs * m
  started-within m g each =
      omega (
        arith,
        sum-within (segs T) m (λ i. cond (T.start i) (g i) 0) (λ i lt. left_out (T.start i) (g i) m (each i lt)),
        product-within (segs T) m most_segs m run.segs_within (omega arith),
      )

  -- the touches with the swap costs of the start set are at most 2,304 items
  pub start-holds : (b : Bucket) → Holds most_steps b → Holds most_items (with_start (start_set T) b)
  start-holds b h =
      omega (
        arith,
        h,
        started-within largest_swap (λ i. swap_of T i) swap_within,
        started-within (largest_swap * largest_size) (λ i. swap_of T i * size_of T i)
            (λ i lt. product-within (swap_of T i) (size_of T i) largest_swap largest_size (swap_within i lt) (run.size_within i lt)),
      )

  pub cost_within : ref_cost T ≤ most_steps * largest_size
  unfolding ref_cost
  cost_within =
      omega (
        arith,
        touches-within T largest_size (λ t i. unit_of T i) (λ t i lt l. units-within i l),
        product-within (steps T) largest_size most_steps largest_size run.steps_within (omega arith),
      )

  pub volume_within : ref_volume T ≤ most_steps * largest_size
  unfolding ref_volume
  volume_within =
      omega (
        arith,
        touches-within T largest_size (λ t i. size_of T i) (λ t i lt l. run.size_within i l),
        product-within (steps T) largest_size most_steps largest_size run.steps_within (omega arith),
      )

  -- optmem and load, at any prices
  pub optmem_within : (h d : ℕ) → optmem T h d < 2 ^ 40
  unfolding optmem
  optmem_within h d =
      omega (
        arith,
        cost_within,
        touches-within T retention_bound (λ t i. cond (kept T h d t i) (retention_of T t i) 0)
            (λ t i lt l.
            left_out (kept T h d t i) (retention_of T t i) retention_bound (retention_within t i (omega (arith, run.steps_within)) l)),
        product-within (steps T) retention_bound most_steps retention_bound run.steps_within (omega arith),
      )

  missed_within : (h d : ℕ) → volume T h d ≤ most_steps * largest_size
  unfolding volume
  missed_within h d =
      omega (
        arith,
        touches-within T largest_size (λ t i. cond (kept T h d t i) 0 (size_of T i))
            (λ t i lt l. either-within (kept T h d t i) 0 (size_of T i) largest_size (omega arith) (run.size_within i l)),
        product-within (steps T) largest_size most_steps largest_size run.steps_within (omega arith),
      )

  pub load_within : (h d : ℕ) → load T h d < 2 ^ 40
  unfolding load misses
  load_within h d =
      omega (
        arith,
        run.steps_within,
        touches-within T 1 (λ t i. cond (kept T h d t i) 0 1)
            (λ t i lt l. either-within (kept T h d t i) 0 1 1 (omega arith) (omega arith)),
        product-within T.a (volume T h d) largest_a (most_steps * largest_size) run.a_within (missed_within h d),
      )

  module _ (h d : ℕ) (fit : d ≤ largest_price) where
    -- the smaller value is within d × R, so what a touch adds to wsocc is within d × (u − 1) × z
    pub occupied-space : (t i : ℕ) → by_kind T.kind (size_of T i * smaller T h d t i) (smaller T h d t i)
        ≤ d * space_of T t i
    unfolding smaller
    occupied-space t i =
        omega (
          arith,
          item T.kind (is_reuse (unreferenced T t i)) (retention_of T t i) (h * swap_of T i) (size_of T i),
          ap (λ n. d * n) (space-of T.kind (size_of T i) (unreferenced T t i)),
        )
      where
        item : (kind : Kind) (b : Bool) (R hw z : ℕ)
            → by_kind kind (z * cond b (min (d * R) hw) 0) (cond b (min (d * R) hw) 0) ≤ d * by_kind kind (R * z) R
        item Time true R hw z =
            let least : min (d * R) hw ≤ d * R = omega arith in
            omega (arith, mul-le-mul_left z least)
        item Time false R hw z = omega arith
        item Space true R hw z = omega arith
        item Space false R hw z = omega arith

    -- and so within the largest price times the largest retention
    occupied-within : (t i : ℕ) → t ≤ most_steps → i < segs T
        → by_kind T.kind (size_of T i * smaller T h d t i) (smaller T h d t i)
        ≤ largest_price * retention_bound
    occupied-within t i le lt =
        omega (
          arith,
          occupied-space t i,
          product-within d (space_of T t i) largest_price retention_bound fit (times-within t i (size_of T i) le (run.size_within i lt)),
        )

    -- the references' cost or volume, and S over all touches and end intervals
    total-within : (S : ℕ → ℕ → ℕ) (base : ℕ) → base ≤ most_steps * largest_size
        → ((t i : ℕ) → t ≤ most_steps → i < segs T → S t i ≤ largest_price * retention_bound)
        → d * base + over_touches T S + over_segments T (S (steps T)) < 2 ^ 53
    total-within S base small each =
        let B = largest_price * retention_bound in
        omega (
          arith,
          product-within d base largest_price (most_steps * largest_size) fit small,
          touches-within T B S (λ t i lt l. each t i (omega (arith, run.steps_within)) l),
          product-within (steps T) B most_steps B run.steps_within (omega arith),
          sum-within (segs T) B (S (steps T)) (λ i lt. each (steps T) i run.steps_within lt),
          product-within (segs T) B most_segs B run.segs_within (omega arith),
        )

    pub wsocc_within : wsocc T h d < 2 ^ 53
    unfolding wsocc wsspace wsmem
    wsocc_within = go T.kind occupied-within
      where
        go : (kind : Kind)
            → ((t i : ℕ) → t ≤ most_steps → i < segs T
            → by_kind kind (size_of T i * smaller T h d t i) (smaller T h d t i)
            ≤ largest_price * retention_bound)
            → elim kind [ Time ↦ wsspace T h d | Space ↦ wsmem T h d ] < 2 ^ 53
        go Time each =
            total-within (λ t i. size_of T i * smaller T h d t i) (ref_volume T) volume_within each
        go Space each = total-within (λ t i. smaller T h d t i) (ref_cost T) cost_within each
