-- How large the figures of a run within the limits can be. The most that can be held is every segment in every step.
use Prim.Native.Nat.{ℕ, suc, ◌+◌, ◌*◌, ◌/◌, ◌≤◌, ◌<◌, min}
use mathlib.Core.Path.{◌≡◌, refl}
use mathlib.Core.Bool.{Bool, true, false, cond}
use mathlib.Core.Option.{Option, none, some}
use native.Mathlib.Omega.{arith}
use native.Mathlib.Nat.{mul-le-mul_left, div-le_of_le-mul}
use lib.Dec.{eqb}
use Rattle.model.specs.Costs.{unit_cost, retention, total_cost}
use Rattle.model.specs.Sums.{sum}
use Rattle.model.specs.Traces.{Trace, segs, steps, size_of, swap_of, unit_of, touched, over_touches, over_segments, later, unreferenced}
use Rattle.model.specs.Figures.{
  ref_cost,
  ref_volume,
  of_time,
  is_reuse,
  retention_of,
  space_of,
  kept,
  misses,
  volume,
  load,
  optmem,
  opttotal,
  optocc,
  smaller,
  wsmem,
  wsspace,
  wsocc,
  mean,
}
use Rattle.model.specs.Sheets.{RunWithin, largest_a, most_segs, largest_size, largest_price, most_steps}
use Rattle.model.specs.declared.Kind.{Kind}
use Rattle.model.specs.declared.Kind.TheVariants.{Time, Space}
use Rattle.model.proofs.Bounds.{product-within}
use Rattle.model.proofs.DoubleSums.{over_touches-double, potential-le}
use Rattle.model.proofs.Loads.{over_touches-total, touching-within}
use Rattle.model.proofs.Sums.{sum-le, sum-zero, sum-mul, sum-within}
use Rattle.model.proofs.Touches.{unreferenced-none, unreferenced-touched, unreferenced-later}

-- the sizes of all segments, added
abbrev pub all_sizes : Trace → ℕ
all_sizes T = over_segments T (size_of T)

-- a price c, and what touches and end intervals cost at it
module _ (T : Trace) (c : ℕ) where
  space-start : (i : ℕ) → c * space_of T 0 i ≡ 0
  space-start i = rw (unreferenced-none T i) (go (T.start i))
    where
      go : (b : Bool) → c * of_time (λ k. k * size_of T i) (cond b (some 0) none) ≡ 0
      go true = omega arith
      go false = omega arith

  later-within : (z : ℕ) (o : Option ℕ) → c * of_time (λ k. k * z) (later o) ≤ c * z + c * of_time (λ k. k * z) o
  unfolding later
  later-within z none = omega arith
  later-within z (some k) = omega arith

  -- one step: a touch costs at most what is held of the segment since the last one and now; another segment is held for one step more
  step_within : (t i x : ℕ) → x ≤ c * (size_of T i + space_of T t i)
      → cond (touched T t i) x 0 + c * space_of T (suc t) i ≤ c * size_of T i + c * space_of T t i
  step_within t i x le = go (touched T t i) refl
    where
      go : (b : Bool) → touched T t i ≡ b → cond (touched T t i) x 0 + c * space_of T (suc t) i ≤ c * size_of T i + c * space_of T t i
      go true e = rw (e, unreferenced-touched T t i e) (omega arith)
      go false e = rw (e, unreferenced-later T t i e) (omega (arith, later-within (size_of T i) (unreferenced T t i)))

  -- all touches and end intervals: at most c times every segment in every step
  touches-within : (f : ℕ → ℕ → ℕ) (e : ℕ → ℕ) → ((t i : ℕ) → i < segs T → f t i ≤ c * (size_of T i + space_of T t i))
      → ((i : ℕ) → i < segs T → e i ≤ c * space_of T (steps T) i) → over_touches T f + over_segments T e ≤ steps T * (c * all_sizes T)
  touches-within f e touch end =
      omega (
        arith,
        over_touches-double T f,
        potential-le (steps T) (segs T) (λ t i. cond (touched T t i) (f t i) 0) (λ t i. c * size_of T i) (λ t i. c * space_of T t i)
            (λ t i lt l. step_within t i (f t i) (touch t i l)),
        sum-le (segs T) e (λ i. c * space_of T (steps T) i) end,
        sum-zero (segs T) (λ i. c * space_of T 0 i) (λ i lt. space-start i),
        sum-within (steps T) (c * all_sizes T) (λ t. sum (segs T) (λ i. c * size_of T i))
            (λ t lt. omega (arith, sum-mul c (segs T) (size_of T))),
      )

  -- the same of c times a, at most the sizes, and of b
  pub held-within : (a b : ℕ → ℕ → ℕ) (e : ℕ → ℕ) → ((t i : ℕ) → i < segs T → a t i ≤ size_of T i)
      → ((t i : ℕ) → i < segs T → b t i ≤ c * space_of T t i) → ((i : ℕ) → i < segs T → e i ≤ c * space_of T (steps T) i)
      → c * over_touches T a + over_touches T b + over_segments T e ≤ steps T * (c * all_sizes T)
  held-within a b e base more end =
      omega (
        arith,
        over_touches-total T 1 c a b,
        touches-within (λ t i. total_cost 1 c (a t i) (b t i)) e
            (λ t i lt. omega (arith, mul-le-mul_left c (base t i lt), more t i lt)) end,
      )

module _ (T : Trace) (c : RunWithin T) (h d : ℕ) where
  unit-within : (i : ℕ) → i < segs T → unit_of T i ≤ size_of T i
  unit-within i lt = go T.kind (c.some_size i lt)
    where
      go : (kind : Kind) {z : ℕ} → 1 ≤ z → unit_cost kind z ≤ z
      go Time le = le
      go Space le = omega arith

  retention_within : (t i : ℕ) → i < segs T → retention_of T t i ≤ space_of T t i
  retention_within t i lt = go (unreferenced T t i)
    where
      go : (o : Option ℕ) → of_time (retention T.kind (size_of T i)) o ≤ of_time (λ k. k * size_of T i) o
      go none = omega arith
      go (some k) = mul-le-mul_left k (unit-within i lt)

  smaller-within : (t i : ℕ) → i < segs T → smaller T h d t i ≤ d * space_of T t i
  unfolding smaller
  smaller-within t i lt = go (is_reuse (unreferenced T t i)) (h * swap_of T i) (mul-le-mul_left d (retention_within t i lt))
    where
      go : (b : Bool) (hw : ℕ) {R S : ℕ} → R ≤ S → cond b (min R hw) 0 ≤ S
      go true hw le = omega arith
      go false hw le = omega arith

  -- kind time: z times the smaller value
  sized-within : T.kind ≡ Time → (t i : ℕ) → size_of T i * smaller T h d t i ≤ d * space_of T t i
  unfolding smaller
  sized-within e t i = go T.kind e (unreferenced T t i) (h * swap_of T i) (size_of T i)
    where
      timed : (o : Option ℕ) (hw z : ℕ) → z * cond (is_reuse o) (min (d * of_time (retention Time z) o) hw) 0 ≤ d * of_time (λ k. k * z) o
      timed none hw z = omega arith
      timed (some k) hw z =
          let least : min (d * (k * 1)) hw ≤ d * k = omega arith in
          omega (arith, mul-le-mul_left z least)

      go : (kind : Kind) → kind ≡ Time → (o : Option ℕ) (hw z : ℕ)
          → z * cond (is_reuse o) (min (d * of_time (retention kind z) o) hw) 0 ≤ d * of_time (λ k. k * z) o
      go kind same o hw z = rw same (timed o hw z)

  -- a number that may be left out
  left_out : (b : Bool) {x m : ℕ} → x ≤ m → cond b x 0 ≤ 1 * m
  left_out true le = omega arith
  left_out false le = omega arith

  pub optmem_within : optmem T h d ≤ steps T * (1 * all_sizes T)
  unfolding optmem ref_cost
  optmem_within =
      omega (
        arith,
        held-within T 1 (λ t i. unit_of T i) (λ t i. cond (kept T h d t i) (retention_of T t i) 0) (λ i. 0) (λ t i lt. unit-within i lt)
            (λ t i lt. left_out (kept T h d t i) (retention_within t i lt)) (λ i lt. omega arith),
      )

  pub optocc_within : optocc T h d ≤ steps T * (1 * all_sizes T)
  unfolding optocc ref_volume
  optocc_within =
      omega (
        arith,
        held-within T 1 (λ t i. size_of T i) (λ t i. cond (kept T h d t i) (space_of T t i) 0) (λ i. 0) (λ t i lt. omega arith)
            (λ t i lt. left_out (kept T h d t i) (omega arith)) (λ i lt. omega arith),
      )

  pub wsmem_within : wsmem T h d ≤ steps T * (d * all_sizes T)
  unfolding wsmem ref_cost
  wsmem_within =
      held-within T d (λ t i. unit_of T i) (λ t i. smaller T h d t i) (λ i. smaller T h d (steps T) i) (λ t i lt. unit-within i lt)
      smaller-within (λ i lt. smaller-within (steps T) i lt)

  pub wsocc_within : wsocc T h d ≤ steps T * (d * all_sizes T)
  unfolding wsocc wsspace ref_volume
  wsocc_within = go T.kind refl
    where
      go : (kind : Kind) → T.kind ≡ kind → elim kind [ Time ↦ wsspace T h d | Space ↦ wsmem T h d ] ≤ steps T * (d * all_sizes T)
      go Time e =
          held-within T d (λ t i. size_of T i) (λ t i. size_of T i * smaller T h d t i) (λ i. size_of T i * smaller T h d (steps T) i)
          (λ t i lt. omega arith) (λ t i lt. sized-within e t i) (λ i lt. sized-within e (steps T) i)
      go Space e = wsmem_within

  pub mean_within : mean T h d ≤ 1000 * all_sizes T
  unfolding mean
  mean_within = go (eqb (steps T) 0)
    where
      go : (b : Bool) → cond b 0 (1000 * wsocc T h d / (d * steps T)) ≤ 1000 * all_sizes T
      go true = omega arith
      go false = div-le_of_le-mul (d * steps T) (omega (arith, wsocc_within))

  -- a number that is left out where a touch is kept
  missed : (b : Bool) (x : ℕ) → cond b 0 x ≤ x
  missed true x = omega arith
  missed false x = omega arith

  pub misses_within : misses T h d ≤ steps T * 1
  unfolding misses
  misses_within = touching-within T (steps T) 1 (λ t i. cond (kept T h d t i) 0 1) (λ t i lt l. missed (kept T h d t i) 1)

  pub volume_within : volume T h d ≤ most_steps * largest_size
  unfolding volume
  volume_within =
      omega (
        arith,
        touching-within T (steps T) largest_size (λ t i. cond (kept T h d t i) 0 (size_of T i))
            (λ t i lt l. omega (arith, missed (kept T h d t i) (size_of T i), c.size_within i l)),
        product-within (steps T) largest_size most_steps largest_size c.steps_within (omega arith),
      )

  pub load_within : load T h d ≤ most_steps + largest_a * (most_steps * largest_size)
  unfolding load
  load_within =
      omega (
        arith,
        misses_within,
        c.steps_within,
        product-within T.a (volume T h d) largest_a (most_steps * largest_size) c.a_within volume_within,
      )

  pub sizes-within : all_sizes T ≤ most_segs * largest_size
  sizes-within =
      omega (
        arith,
        sum-within (segs T) largest_size (size_of T) c.size_within,
        product-within (segs T) largest_size most_segs largest_size c.segs_within (omega arith),
      )

  -- at prices within the limits
  pub opttotal_within : h ≤ largest_price → d ≤ largest_price
      → opttotal T h d
      ≤ largest_price * (most_steps * (most_segs * largest_size)) + largest_price * (most_steps + largest_a * (most_steps * largest_size))
  unfolding opttotal
  opttotal_within high-h high-d =
      let sizes : 1 * all_sizes T ≤ most_segs * largest_size = omega (arith, sizes-within) in
      let held = product-within (steps T) (1 * all_sizes T) most_steps (most_segs * largest_size) c.steps_within sizes in
      omega (
        arith,
        product-within d (optmem T h d) largest_price (most_steps * (most_segs * largest_size)) high-d (omega (arith, optmem_within)),
        product-within h (load T h d) largest_price (most_steps + largest_a * (most_steps * largest_size)) high-h load_within,
      )
