-- The loop over the references: what one step makes of what the pass has. And a run that takes more references: what the pass has after
-- its steps, it has after the same steps of the longer run.
use Prim.Native.Nat.{ℕ, suc, ◌+◌, ◌≤◌, ◌<◌}
use mathlib.Core.Path.{◌≡◌, refl, sym, ap, ◌∙◌}
use mathlib.Core.List.{List, ◌++◌}
use native.Mathlib.Omega.{arith}
use native.Mathlib.Nat.{le_refl, le_of_lt}
use native.Mathlib.Numerals.{add-one}
use lib.ListN.{length, get_or, set}
use lib.Seq.{ext_get_or, get_or-append-add}
use borrow.Author.Tests.{lt-ltb, le-ltb}
use Rattle.model.specs.Traces.{Trace, segs, steps, entry, size_of}
use Rattle.model.specs.Sheets.{RunWithin, listed, run_of}
use Rattle.model.specs.declared.Kind.{Kind}
use Rattle.model.specs.declared.PriceRow.{PriceRow}
use Rattle.model.specs.LastTouches.{start_table, last_from, last_table}
use Rattle.model.proofs.LastTouches.{length-last_table, last_table-at, start_table-is, last_table-step, last_table-idle, last-time}
use Rattle.model.proofs.Growth.{with_refs, Agree, unreferenced-past}
use Rattle.model.proofs.Lists.{get_or-any}
use Rattle.model.proofs.Tables.{tabulate-eq}
use Rattle.model.specs.Sums.{tabulate}
use Rattle.buckets.specs.Buckets.{bucket_count, bucket_after, all_empty, no_bucket}
use Rattle.buckets.specs.inner.Pass.{touch_of, Limited, with_touch, passed_after}
use Rattle.buckets.specs.inner.Search.{time_since}
use Rattle.buckets.specs.declared.Bucket.{Bucket}
use Rattle.buckets.specs.declared.pass.Touch.{Touch}
use Rattle.buckets.specs.declared.pass.Passed.{Passed}
use Rattle.buckets.proofs.Filling.{bucket_over, buckets_over, buckets-start, buckets-step, buckets-skip, bucket-eq}
use Rattle.buckets.proofs.Touches.{touch_at, touches, bucket_after-over}

module _ (rows : List PriceRow) (T : Trace) where
  -- the touch in the step at place t
  abbrev step_touch : ℕ → Touch
  step_touch t = touch_at rows T t (entry T t)

  -- the buckets after n steps are those of the touches in them
  buckets-over : (n : ℕ) → buckets_over (touches T) step_touch n ≡ tabulate bucket_count (bucket_after rows T n)
  buckets-over n =
      sym (tabulate-eq bucket_count (bucket_after rows T n) (bucket_over (touches T) step_touch n) (λ k l. bucket_after-over rows T n k))

  -- at the start the warm segments count as touched, and nothing is in the buckets
  pub pass_start : (warm : List ℕ) → ((i : ℕ) → T.start i ≡ listed warm i) → (buckets : List Bucket) (last : List ℕ)
      → buckets ≡ all_empty → last ≡ start_table warm → record { buckets = buckets; last = last } ≡ passed_after rows T 0
  unfolding passed_after
  pass_start warm same buckets last empty table =
      rw (empty, table, buckets-start (touches T) step_touch ∙ buckets-over 0, start_table-is T warm same) refl

  -- what the pass has after n steps
  module _ (n : ℕ) (buckets : List Bucket) (last : List ℕ) (s : record { buckets = buckets; last = last } ≡ passed_after rows T n) where
    buckets-are : buckets ≡ buckets_over (touches T) step_touch n
    unfolding passed_after
    buckets-are = ap (λ (p : Passed). p.buckets) s ∙ sym (buckets-over n)

    last-are : last ≡ last_table T n
    unfolding passed_after
    last-are = ap (λ (p : Passed). p.last) s

    -- one more step, in which nothing is touched
    pub pass-idle : segs T ≤ entry T n → record { buckets = buckets; last = last } ≡ passed_after rows T (n + 1)
    unfolding passed_after
    pass-idle idle =
        let b : buckets ≡ tabulate bucket_count (bucket_after rows T (suc n)) =
        buckets-are ∙ buckets-skip (touches T) step_touch n (le-ltb (entry T n) (segs T) idle) ∙ buckets-over (suc n) in
        let l : last ≡ last_table T (suc n) = last-are ∙ last_table-idle T n idle in
        rw (add-one n, b, l) refl

    module _ (run : RunWithin T) (lt : n < steps T) where
      step-entry : entry T n < segs T → (y : Touch) → Limited y
          → y ≡ touch_of T.kind T.a rows (size_of T (entry T n)) (time_since n (get_or last (entry T n) 0))
          → (b : Bucket) → b ≡ with_touch (get_or buckets y.bucket no_bucket) y
          → record { buckets = set buckets y.bucket b; last = set last (entry T n) (n + 1) } ≡ passed_after rows T (n + 1)
      unfolding passed_after
      step-entry segment y lim is b added =
          let touch : y ≡ step_touch n =
          rw (last-are, last-time T n (entry T n) 0 (omega (arith, segment, run.segs_within)) (omega (arith, run.steps_within))) at is in
          let bs : set buckets y.bucket b ≡ tabulate bucket_count (bucket_after rows T (suc n)) =
          buckets-step (touches T) step_touch n buckets buckets-are y touch (omega (arith, lim.is_bucket)) b
          (rw (lt-ltb (entry T n) (segs T) segment) added)
          ∙ buckets-over (suc n) in
          let l : set last (entry T n) (suc n) ≡ last_table T (suc n) = rw last-are (last_table-step T n segment run.segs_within) in
          rw (add-one n, bs, l) refl

      -- one more step, as the code makes it: a touch of segment i
      pub pass_step : (i : ℕ) → entry T n ≡ i → i < segs T → (y : Touch) → Limited y
          → y ≡ touch_of T.kind T.a rows (size_of T i) (time_since n (get_or last i 0))
          → (b : Bucket) → b ≡ with_touch (get_or buckets y.bucket no_bucket) y
          → record { buckets = set buckets y.bucket b; last = set last i (n + 1) } ≡ passed_after rows T (n + 1)
      pass_step i e segment y lim is b added = rw e at (step-entry (rw e segment) y lim (rw e is) b added)

-- entry t after those `before` is entry t of the others
pub entry-on : (kind : Kind) (a : ℕ) (sizes warm before refs : List ℕ) (n t : ℕ) → length before ≡ n → t < length refs
    → entry (run_of kind a sizes warm (before ++ refs)) (n + t) ≡ get_or refs t 0
entry-on kind a sizes warm before refs n t at lt =
    rw (← at) (get_or-append-add before refs t (length sizes) ∙ get_or-any refs t (length sizes) 0 lt)

-- where the entries below n agree, so does what the pass has after n steps
module _ (rows : List PriceRow) (T : Trace) (l : List ℕ) (n : ℕ) (same : Agree n T l) where
  touch-stays : (t : ℕ) → t < n → touch_at rows T t (entry T t) ≡ touch_at rows (with_refs T l) t (entry (with_refs T l) t)
  touch-stays t lt = rw (same t lt, unreferenced-past T l n same t (entry T t) (le_of_lt lt)) refl

  last-stays : last_table T n ≡ last_table (with_refs T l) n
  last-stays =
      ext_get_or 0 (last_table T n) (last_table (with_refs T l) n) (length-last_table T n ∙ sym (length-last_table (with_refs T l) n))
      (λ i lt.
      let inside : i < 256 = omega (arith, length-last_table T n) in
      last_table-at T n i 0 inside
      ∙ ap (last_from n) (sym (unreferenced-past T l n same n i (le_refl n)))
      ∙ sym (last_table-at (with_refs T l) n i 0 inside))

  pub passed-agree : passed_after rows T n ≡ passed_after rows (with_refs T l) n
  unfolding passed_after
  passed-agree =
      let U = with_refs T l in
      let b : tabulate bucket_count (bucket_after rows T n) ≡ tabulate bucket_count (bucket_after rows U n) =
      tabulate-eq bucket_count (bucket_after rows T n) (bucket_after rows U n)
      (λ k lt.
      bucket_after-over rows T n k
      ∙ bucket-eq (touches T) (λ t. touch_at rows T t (entry T t)) (touches U) (λ t. touch_at rows U t (entry U t)) n k
      (λ t lt. rw (same t lt) refl) touch-stays
      ∙ sym (bucket_after-over rows U n k)) in
      rw (b, last-stays) refl
