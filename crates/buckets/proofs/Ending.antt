-- The loop over the segments for the end intervals: what holds after i segments.
use Prim.Native.Nat.{ℕ, suc, ◌+◌, ◌<◌}
use mathlib.Core.Path.{◌≡◌, sym, ap, ◌∙◌}
use mathlib.Core.List.{List}
use native.Mathlib.Omega.{arith}
use native.Mathlib.Numerals.{add-one}
use lib.ListN.{get_or, set}
use Rattle.std.specs.Prelude.{is_some}
use Rattle.model.specs.Traces.{Trace, segs, steps, size_of}
use Rattle.model.specs.Sheets.{RunWithin}
use Rattle.model.specs.Sums.{tabulate}
use Rattle.model.specs.declared.PriceRow.{PriceRow}
use Rattle.model.specs.LastTouches.{last_table}
use Rattle.model.proofs.LastTouches.{last-time}
use Rattle.model.proofs.Tables.{tabulate-eq}
use Rattle.buckets.specs.Buckets.{bucket_count, end_bucket, all_empty, no_bucket}
use Rattle.buckets.specs.inner.Pass.{touch_of, Limited, with_end}
use Rattle.buckets.specs.inner.Search.{time_since}
use Rattle.buckets.specs.declared.Bucket.{Bucket}
use Rattle.buckets.specs.declared.pass.Touch.{Touch}
use Rattle.buckets.proofs.Filling.{bucket_over, buckets_over, buckets-start, buckets-step}
use Rattle.buckets.proofs.Touches.{touch_at, end_bucket-over}

module _ (rows : List PriceRow) (T : Trace) where
  -- the end interval of segment i
  abbrev end_touch : ℕ → Touch
  end_touch i = touch_at rows T (steps T) i

  -- the buckets of the end intervals of the first m segments
  abbrev pub ends_up_to : ℕ → List Bucket
  ends_up_to m = tabulate bucket_count (end_bucket rows T m)

  ends-over : (m : ℕ) → buckets_over (λ i. is_some (end_touch i).retention) end_touch m ≡ ends_up_to m
  ends-over m =
      sym (tabulate-eq bucket_count (end_bucket rows T m) (bucket_over (λ i. is_some (end_touch i).retention) end_touch m)
      (λ k l. end_bucket-over rows T m k))

  pub ending-start : all_empty ≡ ends_up_to 0
  ending-start = buckets-start (λ i. is_some (end_touch i).retention) end_touch ∙ ends-over 0

  pub ending-step : RunWithin T → (n : ℕ) → steps T ≡ n → (last : List ℕ) → last ≡ last_table T n → (i : ℕ) → i < segs T
      → (buckets : List Bucket) → buckets ≡ ends_up_to i → (y : Touch) → Limited y
      → y ≡ touch_of T.kind T.a rows (size_of T i) (time_since n (get_or last i 0))
      → (b : Bucket) → b ≡ with_end (get_or buckets y.bucket no_bucket) y → set buckets y.bucket b ≡ ends_up_to (i + 1)
  ending-step run n all last table i lt buckets are y lim is b added =
      let touch : y ≡ end_touch i =
      rw (table, last-time T n i 0 (omega (arith, run.segs_within)) (omega (arith, run.steps_within)), ← all) at is in
      rw (add-one i)
      (buckets-step (λ i. is_some (end_touch i).retention) end_touch i buckets (are ∙ sym (ends-over i)) y touch
      (omega (arith, lim.is_bucket)) b
      (rw (← ap (λ (q : Touch). is_some q.retention) touch) added)
      ∙ ends-over (suc i))
