-- The figures of a row from the sums over all touches, over what the row keeps, and over the end intervals that it keeps, are its
-- figures as they are defined.
use Prim.Native.Nat.{ℕ, ◌+◌, ◌-◌, ◌*◌, ◌≤◌}
use mathlib.Core.Path.{◌≡◌, refl, ap, ◌∙◌}
use mathlib.Core.Bool.{Bool, cond}
use native.Mathlib.Omega.{arith}
use Rattle.model.specs.Traces.{Trace, steps, size_of, swap_of, over_touches, over_segments, unreferenced}
use Rattle.model.specs.Figures.{ref_cost, ref_volume, retention_of, space_of, kept, smaller, misses, volume, load, optmem, opttotal, optocc}
use Rattle.model.specs.Figures.{wsmem, wsspace, wsocc, mean}
use Rattle.model.specs.Rows.{row_figures}
use Rattle.model.specs.declared.Kind.{Kind}
use Rattle.model.specs.declared.Kind.TheVariants.{Time, Space}
use Rattle.model.specs.declared.PriceRow.{PriceRow}
use Rattle.model.proofs.Loads.{over_touches-eq}
use Rattle.figures.specs.inner.Sweep.{with_start}
use Rattle.figures.specs.inner.OneRow.{by_kind, load_from, wsmem_from, wsspace_from, wsocc_from, row_from, KeptWithin}
use Rattle.buckets.specs.declared.Bucket.{Bucket}
use Rattle.figures.specs.declared.row_sums.Sums.{Sums}
use Rattle.figures.proofs.Starts.{start_set}
use Rattle.figures.proofs.Sweeps.{bucket_by, space-of}
use Rattle.figures.proofs.WorkingSets.{touches-split, kept-swaps-within, working-set, smaller-priced, sized-priced}

-- a working set's cost from its sums, where the kept swap costs are within all
from-sums : (h d base A B KR ER AW KW EW : ℕ) → KW + EW ≤ AW → A + B + h * (KW + EW) ≡ d * (KR + ER) + h * AW
    → d * base + A + B ≡ d * (base + KR + ER) + h * (AW - KW - EW)
from-sums h d base A B KR ER AW KW EW within eq =
    let whole : AW ≡ AW - KW - EW + (KW + EW) = omega arith in
    omega (arith, ap (λ n. h * n) whole)

module _ (T : Trace) (row : PriceRow) where
  -- the sums over all touches, the swap costs of the start set among them; over those that the row keeps, and over the end intervals that
  -- it keeps
  abbrev pub all_sums : Bucket
  all_sums = with_start (start_set T) (bucket_by T (λ g. over_touches T g))

  abbrev pub kept_sums : Bucket
  kept_sums = bucket_by T (λ g. over_touches T (λ t i. cond (kept T row.h row.d t i) (g t i) 0))

  abbrev pub end_sums : Bucket
  end_sums = bucket_by T (λ g. over_segments T (λ i. cond (kept T row.h row.d (steps T) i) (g (steps T) i) 0))

  -- with Q and V
  abbrev pub swept_sums : Sums
  swept_sums =
      record { cost = record { 0 = ref_cost T }; volume = ref_volume T; all = all_sums; kept = kept_sums; ends = end_sums }

  misses-swept : misses T row.h row.d ≡ all_sums.count - kept_sums.count
  unfolding misses
  misses-swept = omega (arith, touches-split T (kept T row.h row.d) (λ t i. 1))

  volume-swept : volume T row.h row.d ≡ all_sums.volume - kept_sums.volume
  unfolding volume
  volume-swept = omega (arith, touches-split T (kept T row.h row.d) (λ t i. size_of T i))

  load-swept : load T row.h row.d ≡ load_from T.a all_sums kept_sums
  unfolding load
  load-swept = rw (misses-swept, volume-swept)

  optmem-swept : optmem T row.h row.d ≡ ref_cost T + kept_sums.retention.0
  unfolding optmem
  optmem-swept = refl

  optocc-swept : optocc T row.h row.d ≡ ref_volume T + by_kind T.kind kept_sums.retentionz.0 kept_sums.retention.0
  unfolding optocc
  optocc-swept =
      ap (λ n. ref_volume T + n)
      (over_touches-eq T
      (λ t i. cond (kept T row.h row.d t i) (space_of T t i) 0)
      (λ t i.
      by_kind T.kind (cond (kept T row.h row.d t i) (retention_of T t i * size_of T i) 0)
      (cond (kept T row.h row.d t i) (retention_of T t i) 0))
      (λ t i lt l touch.
      item T.kind (kept T row.h row.d t i) (retention_of T t i * size_of T i) (retention_of T t i) (space_of T t i)
      (space-of T.kind (size_of T i) (unreferenced T t i)))
      ∙ sums T.kind (λ t i. cond (kept T row.h row.d t i) (retention_of T t i * size_of T i) 0)
      (λ t i. cond (kept T row.h row.d t i) (retention_of T t i) 0))
    where
      item : (kind : Kind) (k : Bool) (x y n : ℕ) → n ≡ by_kind kind x y → cond k n 0 ≡ by_kind kind (cond k x 0) (cond k y 0)
      item Time k x y n e = rw e
      item Space k x y n e = rw e

      sums : (kind : Kind) (f g : ℕ → ℕ → ℕ)
          → over_touches T (λ t i. by_kind kind (f t i) (g t i)) ≡ by_kind kind (over_touches T f) (over_touches T g)
      sums Time f g = refl
      sums Space f g = refl

  -- what is kept is within the whole
  pub sweep-parts : KeptWithin all_sums kept_sums end_sums
  sweep-parts =
      let h = row.h in
      let d = row.d in
      record {
        counts = omega (arith, touches-split T (kept T h d) (λ t i. 1));
        volumes = omega (arith, touches-split T (kept T h d) (λ t i. size_of T i));
        swaps = kept-swaps-within T h d (λ i. swap_of T i);
        swapzs = kept-swaps-within T h d (λ i. swap_of T i * size_of T i);
      }

  wsmem-swept : wsmem T row.h row.d ≡ wsmem_from row swept_sums
  unfolding wsmem
  wsmem-swept =
      let h = row.h in
      let d = row.d in
      from-sums h d (ref_cost T) (over_touches T (λ t i. smaller T h d t i)) (over_segments T (λ i. smaller T h d (steps T) i))
      kept_sums.retention.0 end_sums.retention.0 all_sums.swap.0 kept_sums.swap.0 end_sums.swap.0 sweep-parts.swaps
      (working-set T h d (swap_of T) (smaller T h d) (retention_of T) (smaller-priced T h d))

  wsspace-swept : wsspace T row.h row.d ≡ wsspace_from row swept_sums
  unfolding wsspace
  wsspace-swept =
      let h = row.h in
      let d = row.d in
      let sized : ℕ → ℕ → ℕ = λ t i. size_of T i * smaller T h d t i in
      from-sums h d (ref_volume T) (over_touches T sized) (over_segments T (sized (steps T)))
      kept_sums.retentionz.0 end_sums.retentionz.0 all_sums.swapz.0 kept_sums.swapz.0 end_sums.swapz.0 sweep-parts.swapzs
      (working-set T h d (λ i. swap_of T i * size_of T i) sized (λ t i. retention_of T t i * size_of T i) (sized-priced T h d))

  pub wsocc-swept : wsocc T row.h row.d ≡ wsocc_from T.kind row swept_sums
  unfolding wsocc
  wsocc-swept = go T.kind
    where
      go : (kind : Kind) → elim kind [ Time ↦ wsspace T row.h row.d | Space ↦ wsmem T row.h row.d ]
          ≡ wsocc_from kind row swept_sums
      go Time = wsspace-swept
      go Space = wsmem-swept

  -- every item of the row
  pub row-swept : row_from T.kind T.a row (steps T) swept_sums ≡ row_figures T row.h row.d
  unfolding row_from row_figures opttotal mean
  row-swept = rw (misses-swept, volume-swept, load-swept, optmem-swept, optocc-swept, wsmem-swept, wsocc-swept)
