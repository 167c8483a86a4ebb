-- The figures of a row, as the code reads them off a recorder that stands for a sheet, are the sheet's.
use Prim.Native.Nat.{ℕ, ◌+◌, ◌≤◌, ◌<◌, min}
use mathlib.Core.Path.{◌≡◌, refl, ap, ◌∙◌}
use mathlib.Core.List.{List}
use native.Mathlib.Omega.{arith}
use native.Mathlib.Numerals.{add-one}
use lib.ListN.{length, take}
use Rattle.model.specs.Sheets.{SheetValue, Valid, trace_of, row_in, most_segs, most_rows, most_steps}
use Rattle.model.specs.declared.MemoryUnits.{MemoryUnits}
use Rattle.model.specs.declared.RowFigures.{RowFigures}
use Rattle.model.specs.Values.{zeros, zero_rows, head_of}
use Rattle.model.specs.LastTouches.{last_table}
use Rattle.buckets.specs.Buckets.{bucket_count, tally_of}
use Rattle.buckets.specs.inner.Pass.{EndedAt}
use Rattle.buckets.specs.inner.Search.{prices_of}
use Rattle.buckets.specs.declared.search.Prices.{Prices}
use Rattle.model.specs.RowAnswers.{figures_at}
use Rattle.figures.specs.inner.Sweep.{summed, with_start, Tallied}
use Rattle.figures.specs.inner.OneRow.{most_items, Holds, RowFits, row_from}
use Rattle.buckets.specs.declared.Bucket.{Bucket}
use Rattle.buckets.specs.declared.Tally.{Tally}
use Rattle.figures.specs.declared.row_sums.Sums.{Sums}
use Rattle.figures.specs.declared.rows.StartSwaps.{StartSwaps}
use Rattle.figures.proofs.Starts.{start_set, starts-are}
use Rattle.figures.proofs.Sweeps.{holds_more}
use Rattle.figures.proofs.Sweeping.{SweptTo, all-fits, tallied-buckets, tallied-ends, tallied-all, tallied_fits, tallied_row}
use Rattle.recorder.specs.inner.Heads.{head_swaps}
use Rattle.recorder.specs.Recorders.{recorder_of}
use Rattle.recorder.specs.declared.Recorder.{Recorder}
use Rattle.recorder.proofs.Standing.{front, padded-at, head_rows, few-warm}

-- the end intervals are those of the sheet's tally
ends_of : (v : SheetValue) → Valid v → (rows segs steps : ℕ) (p : Prices) (b : List Bucket)
    → rows ≡ min (recorder_of v).head.rows most_rows → segs ≡ min (recorder_of v).head.segs most_segs
    → steps ≡ min (recorder_of v).steps most_steps
    → p ≡ prices_of rows (take rows (recorder_of v).head.prices)
    → EndedAt (recorder_of v).head.kind (recorder_of v).head.a (take segs (recorder_of v).head.sizes) p steps (recorder_of v).last b
    → b ≡ (tally_of v.head.rows (trace_of v)).ends
unfolding recorder_of head_of
ends_of v valid rows segs steps p b rows_are segs_are steps_are priced ended =
    let all : length v.entries ≡ steps = omega (arith, valid.run.steps_within) in
    let sizes = front v.head.sizes (zeros most_segs) segs most_segs valid.run.segs_within segs_are in
    (rw sizes at ended) v.head.rows (head_rows v.head valid.rows rows rows_are p priced) v.head.warm v.entries all
    valid.run
    (ap (last_table (trace_of v)) all)

pub ends-stand : (R : Recorder) (rows segs steps : ℕ) (p : Prices) (b : List Bucket)
    → rows ≡ min R.head.rows most_rows → segs ≡ min R.head.segs most_segs → steps ≡ min R.steps most_steps
    → p ≡ prices_of rows (take rows R.head.prices)
    → EndedAt R.head.kind R.head.a (take segs R.head.sizes) p steps R.last b
    → (v : SheetValue) → Valid v → R ≡ recorder_of v → b ≡ (tally_of v.head.rows (trace_of v)).ends
ends-stand R rows segs steps p b rows_are segs_are steps_are priced ended v valid e =
    ends_of v valid rows segs steps p b (rw e at rows_are) (rw e at segs_are) (rw e at steps_are) (rw e at priced) (rw e at ended)

-- the swap costs of the warm segments are the sheet's
starts-of : (v : SheetValue) → Valid v → head_swaps (recorder_of v).head ≡ start_set (trace_of v)
unfolding recorder_of head_of
starts-of v valid =
    rw (
      front v.head.sizes (zeros most_segs) (min (length v.head.sizes) most_segs) most_segs valid.run.segs_within refl,
      front v.head.warm (zeros most_segs) (min (length v.head.warm) most_segs) most_segs (few-warm v valid) refl,
    ) (starts-are v.head.kind v.head.a v.head.sizes v.head.warm v.entries)

-- the figures f of a row of the recorder R as the code makes them
pub record Swept (R : Recorder) (row : ℕ) (f : RowFigures) : Type 0 where
  pub ended : List Bucket
  pub touches : Bucket
  pub start : StartSwaps
  pub sums : Sums
  pub ended_are : (v : SheetValue) → Valid v → R ≡ recorder_of v → ended ≡ (tally_of v.head.rows (trace_of v)).ends
  pub touches_are : ((m : ℕ) → m ≤ bucket_count → Holds most_steps (summed R.buckets m)) → touches ≡ summed R.buckets bucket_count
  pub start_is : start ≡ head_swaps R.head
  pub cost_is : sums.cost ≡ R.cost
  pub volume_is : sums.volume ≡ R.volume
  pub all_is : Holds most_items (with_start start touches) → sums.all ≡ with_start start touches
  pub kept_is : ((m : ℕ) → m ≤ row + 1 → Holds most_steps (summed R.buckets m)) → sums.kept ≡ summed R.buckets (row + 1)
  pub ends_is : ((m : ℕ) → m ≤ row + 1 → Holds most_steps (summed ended m)) → sums.ends ≡ summed ended (row + 1)
  pub figures_are : RowFits R.head.kind (row_in R.head.prices row) R.steps sums
      → f ≡ row_from R.head.kind R.head.a (row_in R.head.prices row) R.steps sums

module _ (v : SheetValue) (valid : Valid v) (row : ℕ) (lt : row < length v.head.rows) (f : RowFigures)
    (s : Swept (recorder_of v) row f) where
  swept_of : f ≡ figures_at v row
  unfolding recorder_of head_of tally_of
  swept_of =
      let rows = v.head.rows in
      let T = trace_of v in
      let tally : Tally = record { buckets = (recorder_of v).buckets; ends = s.ended } in
      let given : Tallied rows T tally =
      record { rows_ok = valid.rows; run_ok = valid.run; is_tally = rw (s.ended_are v valid refl) refl } in
      let few : row + 1 ≤ bucket_count = omega (arith, valid.rows.rows_within) in
      let whole = tallied-all rows T tally given (s.touches_are (tallied-buckets rows T tally given)) (s.start_is ∙ starts-of v valid) in
      let at : SweptTo rows T tally given row (row_in (recorder_of v).head.prices row) s.sums =
      record {
        row_is = padded-at rows (zero_rows most_rows) row (record { h = 0; d = 0 }) lt;
        cost_is = ap (λ (c : MemoryUnits). c.0) s.cost_is;
        volume_is = s.volume_is;
        all_is = s.all_is (rw whole (all-fits rows T tally given)) ∙ whole;
        kept_is = rw (add-one row) at (s.kept_is (λ m le. tallied-buckets rows T tally given m (omega arith)));
        ends_is =
            rw (add-one row) at
            (s.ends_is (λ m le. holds_more (summed s.ended m) (tallied-ends rows T tally given m (omega arith))));
      }
      in
      tallied_row rows T tally given row lt at (s.figures_are (tallied_fits rows T tally given row lt at))

pub swept-stands : (R : Recorder) (row : ℕ) (f : RowFigures) → row < min R.head.rows most_rows → Swept R row f
    → (v : SheetValue) → Valid v → R ≡ recorder_of v → f ≡ figures_at v row
unfolding recorder_of head_of
swept-stands R row f lt s v valid e =
    swept_of v valid row (omega (arith, ap (λ (Q : Recorder). Q.head.rows) e)) f (rw e at s)
