-- The sweep over the rows: each row's figures from the sums up to it, within 64 bits, and the figures written so far.
use Prim.Native.Nat.{ℕ, suc, ◌≤◌, ◌<◌}
use mathlib.Core.Path.{◌≡◌, refl, ap, ◌∙◌}
use mathlib.Core.Bool.{Bool, true, false, cond}
use mathlib.Core.List.{List}
use native.Mathlib.Omega.{arith}
use lib.Dec.{ltb}
use lib.ListN.{length, set}
use borrow.Author.Tests.{lt-ltb, le-ltb, ltb-true, ltb-false}
use Rattle.model.specs.Traces.{Trace, steps, size_of, over_touches}
use Rattle.model.specs.Figures.{ref_cost, ref_volume}
use Rattle.model.specs.Sheets.{row_in, most_segs, most_rows, most_steps}
use Rattle.model.specs.Costs.{unit_cost}
use Rattle.model.specs.declared.Kind.{Kind}
use Rattle.model.specs.declared.Kind.TheVariants.{Time, Space}
use Rattle.model.specs.Rows.{zero_figures}
use Rattle.model.specs.declared.MemoryUnits.{MemoryUnits}
use Rattle.model.specs.declared.PriceRow.{PriceRow}
use Rattle.model.specs.declared.RowFigures.{RowFigures}
use Rattle.buckets.specs.Buckets.{bucket_count}
use Rattle.model.specs.Sums.{tabulate}
use Rattle.model.specs.RowAnswers.{figures_in, run_figures}
use Rattle.figures.specs.inner.Sweep.{summed, with_start, no_row_figures, Tallied}
use Rattle.figures.specs.inner.OneRow.{by_kind, row_from, most_items, Holds, RowFits}
use Rattle.buckets.specs.declared.Bucket.{Bucket}
use Rattle.buckets.specs.declared.Tally.{Tally}
use Rattle.figures.specs.declared.row_sums.Sums.{Sums}
use Rattle.figures.specs.declared.rows.StartSwaps.{StartSwaps}
use Rattle.model.proofs.Units.{memory_is}
use Rattle.figures.proofs.Limits.{buckets-hold, ends-hold, start-holds, cost_within, volume_within, wsocc_within}
use Rattle.figures.proofs.Starts.{start_set}
use Rattle.figures.proofs.Sweeps.{bucket_by, all-sums, kept-sums, ends-sums}
use Rattle.figures.proofs.SweptRows.{all_sums, kept_sums, end_sums, swept_sums, sweep-parts, wsocc-swept, row-swept}
use Rattle.model.proofs.Tables.{tabulate-eq, tabulate-set}

-- the figures of the first n rows of a run, and zeros for the others
abbrev pub figures_up_to : List PriceRow → Trace → ℕ → List RowFigures
figures_up_to rows T n = tabulate most_rows (λ r. cond (ltb r n) (figures_in rows T r) zero_figures)

pub figures-none : (rows : List PriceRow) (T : Trace) → no_row_figures ≡ figures_up_to rows T 0
unfolding no_row_figures
figures-none rows T =
    tabulate-eq most_rows (λ r. zero_figures) (λ r. cond (ltb r 0) (figures_in rows T r) zero_figures)
    (λ r lt. rw (le-ltb r 0 (omega arith)))

pub figures-suc : (rows : List PriceRow) (T : Trace) (n : ℕ) → n < most_rows → {out : List RowFigures} {x : RowFigures}
    → out ≡ figures_up_to rows T n → x ≡ figures_in rows T n → set out n x ≡ figures_up_to rows T (suc n)
figures-suc rows T n lt e f =
    rw (e, f)
    (rw (lt-ltb n (suc n) (omega arith)) at
    (tabulate-set most_rows (λ r. cond (ltb r n) (figures_in rows T r) zero_figures)
    (λ r. cond (ltb r (suc n)) (figures_in rows T r) zero_figures) n lt
    (λ r l ne. go r ne (ltb r n) refl)))
  where
    go : (r : ℕ) → (r ≡ n → ⊥) → (b : Bool) → ltb r n ≡ b
        → cond (ltb r (suc n)) (figures_in rows T r) zero_figures ≡ cond (ltb r n) (figures_in rows T r) zero_figures
    go r ne true e = rw (e, lt-ltb r (suc n) (omega (arith, ltb-true r n e)))
    go r ne false e = rw (e, le-ltb r (suc n) (omega (arith, ltb-false r n e)))

pub figures-all : (rows : List PriceRow) (T : Trace) → figures_up_to rows T (length rows) ≡ run_figures rows T
unfolding run_figures
figures-all rows T = refl

-- sums whose parts are equal
sums-eq : (s t : Sums) → s.cost.0 ≡ t.cost.0 → s.volume ≡ t.volume → s.all ≡ t.all → s.kept ≡ t.kept → s.ends ≡ t.ends → s ≡ t
sums-eq s t cost volume all kept ends = parts (memory_is cost) volume all kept ends
  where
    parts : {c d : MemoryUnits} {v w : ℕ} {a b k l e f : Bucket} → c ≡ d → v ≡ w → a ≡ b → k ≡ l → e ≡ f
        → ◌≡◌ {A = Sums} (record { cost = c; volume = v; all = a; kept = k; ends = e })
        (record { cost = d; volume = w; all = b; kept = l; ends = f })
    parts c v a k e = rw (c, v, a, k, e)

-- for a tally that belongs to rows and a run
module _ (rows : List PriceRow) (T : Trace) (tally : Tally) (given : Tallied rows T tally) where
  pub tallied-buckets : (n : ℕ) → n ≤ bucket_count → Holds most_steps (summed tally.buckets n)
  tallied-buckets n le = rw given.is_tally (buckets-hold T given.run_ok rows n le)

  pub tallied-ends : (n : ℕ) → n ≤ bucket_count → Holds most_segs (summed tally.ends n)
  tallied-ends n le = rw given.is_tally (ends-hold T given.run_ok rows n le)

  -- Q and V from the sums of all buckets
  tallied-sums : summed tally.buckets bucket_count ≡ bucket_by T (λ g. over_touches T g)
  tallied-sums = rw given.is_tally (all-sums rows given.rows_ok T)

  pub tallied-volume : {all : Bucket} → all ≡ summed tally.buckets bucket_count → all.volume ≡ ref_volume T
  unfolding ref_volume
  tallied-volume e = ap (λ (b : Bucket). b.volume) (e ∙ tallied-sums)

  pub tallied-cost : {all : Bucket} → all ≡ summed tally.buckets bucket_count → by_kind T.kind all.count all.volume ≡ ref_cost T
  unfolding ref_cost
  tallied-cost e = ap (λ (b : Bucket). by_kind T.kind b.count b.volume) (e ∙ tallied-sums) ∙ go T.kind
    where
      go : (kind : Kind) → by_kind kind (over_touches T (λ t i. 1)) (over_touches T (λ t i. size_of T i))
          ≡ over_touches T (λ t i. unit_cost kind (size_of T i))
      go Time = refl
      go Space = refl

  -- all buckets added, with the swap costs of the start set
  abbrev pub all_from : Bucket
  all_from = with_start (start_set T) (summed tally.buckets bucket_count)

  pub all-fits : Holds most_items all_from
  all-fits = start-holds T given.run_ok (summed tally.buckets bucket_count) (tallied-buckets bucket_count (omega arith))

  -- the same as the code makes it
  pub tallied-all : {b : Bucket} {start : StartSwaps} → b ≡ summed tally.buckets bucket_count → start ≡ start_set T
      → with_start start b ≡ all_from
  tallied-all e s = rw (e, s) refl

  -- what the sweep has at row r: the row, Q and V, all buckets with the start set and those up to the row, added
  pub record SweptTo (r : ℕ) (row : PriceRow) (s : Sums) : Type 0 where
    pub row_is : row ≡ row_in rows r
    pub cost_is : s.cost.0 ≡ ref_cost T
    pub volume_is : s.volume ≡ ref_volume T
    pub all_is : s.all ≡ all_from
    pub kept_is : s.kept ≡ summed tally.buckets (suc r)
    pub ends_is : s.ends ≡ summed tally.ends (suc r)

  module _ (r : ℕ) (lt : r < length rows) {row : PriceRow} {s : Sums} (at : SweptTo r row s) where
    all_are : s.all ≡ all_sums T (row_in rows r)
    all_are = at.all_is ∙ rw tallied-sums refl

    kept_are : s.kept ≡ kept_sums T (row_in rows r)
    kept_are = at.kept_is ∙ rw given.is_tally (kept-sums rows given.rows_ok T r lt)

    ends_are : s.ends ≡ end_sums T (row_in rows r)
    ends_are = at.ends_is ∙ rw given.is_tally (ends-sums rows given.rows_ok T r lt)

    sums_are : s ≡ swept_sums T (row_in rows r)
    sums_are = sums-eq s (swept_sums T (row_in rows r)) at.cost_is at.volume_is all_are kept_are ends_are

    -- no figure exceeds 64 bits
    pub tallied_fits : RowFits T.kind row (steps T) s
    tallied_fits =
        let up = given.rows_ok in
        let run = given.run_ok in
        let within : suc r ≤ bucket_count = omega (arith, up.rows_within) in
        record {
          summable = record {
            cost_fits = rw at.cost_is (cost_within T run);
            volume_fits = rw at.volume_is (volume_within T run);
            all_holds = rw at.all_is all-fits;
            kept_holds = rw at.kept_is (tallied-buckets (suc r) within);
            ends_holds = rw at.ends_is (tallied-ends (suc r) within);
            parts = rw (all_are, kept_are, ends_are) (sweep-parts T (row_in rows r));
          };
          wsocc_fits =
              rw (sums_are, at.row_is, ← wsocc-swept T (row_in rows r))
              (wsocc_within T run (row_in rows r).h (row_in rows r).d (up.d_within r lt));
          some_d = rw at.row_is (up.some_d r lt);
          refs_fit = run.steps_within;
        }

    -- and they are the row's
    pub tallied_row : {x : RowFigures} → x ≡ row_from T.kind T.a row (steps T) s → x ≡ figures_in rows T r
    tallied_row e = e ∙ rw (at.row_is, sums_are) (row-swept T (row_in rows r))
