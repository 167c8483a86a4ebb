-- The listing of an accepted sheet has at most 11,558 bytes, and with modtotal= 13,158: how many digits each figure can have.
use Prim.Native.Nat.{ℕ, zero, suc, ◌+◌, ◌*◌, ◌^◌, ◌≤◌, ◌<◌}
use mathlib.Core.Path.{◌≡◌}
use mathlib.Core.Bool.{Bool, true, false, cond}
use mathlib.Core.List.{List}
use native.Mathlib.Omega.{arith}
use lib.ListN.{length, get_or}
use lib.Dec.{leb, ltb}
use borrow.Table.Steps.{cases}
use Rattle.model.specs.Figures.{load}
use Rattle.model.specs.Refusals.{number_of}
use Rattle.model.specs.Rows.{row_figures, zero_figures}
use Rattle.model.specs.Sheets.{SheetValue, Valid, trace_of, marks_of, row_at}
use Rattle.model.specs.Traces.{Trace, segs, steps, entry, refs_by, refs_of}
use Rattle.model.specs.declared.Refusal.{Refusal}
use Rattle.model.specs.declared.RowFigures.{RowFigures}
use Rattle.model.proofs.Bounds.{product-within}
use Rattle.model.proofs.References.{refs_none, refs_next}
use Rattle.text.proofs.Lengths.{number-within}
use Rattle.model.specs.Sums.{tabulate}
use Rattle.model.specs.RowAnswers.{figures_at}
use Rattle.model.proofs.Tables.{length-tabulate, get_or-tabulate}
use Rattle.listing.specs.RowListing.{h_key, d_key, misses_key, volume_key, load_key, optmem_key, opttotal_key, optocc_key, wsmem_key}
use Rattle.listing.specs.RowListing.{wsocc_key}
use Rattle.listing.specs.RowListing.{mean_key, modtotal_key, row_listing, mod_listing, marked_text}
use Rattle.listing.specs.Listing.{refused_key, refused_text, steps_listing, listing, older_listing, most_listing, listing_bytes, listing_of}
use Rattle.listing.specs.inner.Parts.{head_text}
use Rattle.text.specs.Keys.{refs_key, steps_key, segs_key, rows_key}
use Rattle.model.proofs.FigureBounds.{
  all_sizes,
  optmem_within,
  opttotal_within,
  optocc_within,
  wsmem_within,
  wsocc_within,
  mean_within,
  misses_within,
  volume_within,
  sizes-within,
}
use Rattle.stores.specs.Rows.{row_modtotal}
use Rattle.store_plan.proofs.RowTotals.{modtotal-within}
use Rattle.listing.proofs.RowLines.{rows-most}
use Rattle.listing.proofs.RowParts.{row-length, marked-length}
use Rattle.listing.proofs.ListingParts.{counts-length, head-length, listing-length}

-- the digits that the figures of a row can have
pub record Digits (f : RowFigures) : Type 0 where
  pub h_digits : f.h < 10 ^ 5
  pub d_digits : f.d < 10 ^ 5
  pub misses_digits : f.misses < 10 ^ 4
  pub volume_digits : f.volume < 10 ^ 7
  pub load_digits : f.load.0 < 10 ^ 10
  pub optmem_digits : f.optmem.0 < 10 ^ 10
  pub opttotal_digits : f.opttotal < 10 ^ 15
  pub optocc_digits : f.optocc < 10 ^ 10
  pub wsmem_digits : f.wsmem < 10 ^ 15
  pub wsocc_digits : f.wsocc < 10 ^ 15
  pub mean_digits : f.mean < 10 ^ 10

-- steps= of at most 9,999 steps
steps-most : (form n : ℕ) → n < 10 ^ 4 → length (steps_listing form n) ≤ 11
unfolding steps_listing
steps-most form n h =
    cases (leb 2 form) (λ e. rw e (omega (arith, number-within steps_key 3 n h))) (λ e. rw e (omega arith))

-- there are no more references than steps
refs-most : (T : Trace) (t : ℕ) → refs_by T t ≤ t
refs-most T zero = omega (arith, refs_none T)
refs-most T (suc t) =
    let one : cond {A = ℕ} (ltb (entry T t) (segs T)) 1 0 ≤ 1 =
    cases (ltb (entry T t) (segs T)) (λ e. rw e (omega arith)) (λ e. rw e (omega arith)) in
    omega (arith, refs-most T t, refs_next T t)

-- the line of a refusal with one digit has fewer than a listing
pub refused-most : (q : Refusal) → number_of q < 100 → length (refused_text q) ≤ most_listing
unfolding refused_text
refused-most q h = omega (arith, number-within refused_key 1 (number_of q) h)

-- a row has at most 180 bytes
row-most : (f : RowFigures) → Digits f → length (row_listing f) ≤ 180
row-most f w =
    omega (
      arith,
      row-length f,
      number-within h_key 4 f.h w.h_digits,
      number-within d_key 4 f.d w.d_digits,
      number-within misses_key 3 f.misses w.misses_digits,
      number-within volume_key 6 f.volume w.volume_digits,
      number-within load_key 9 f.load.0 w.load_digits,
      number-within optmem_key 9 f.optmem.0 w.optmem_digits,
      number-within opttotal_key 14 f.opttotal w.opttotal_digits,
      number-within optocc_key 9 f.optocc w.optocc_digits,
      number-within wsmem_key 14 f.wsmem w.wsmem_digits,
      number-within wsocc_key 14 f.wsocc w.wsocc_digits,
      number-within mean_key 9 f.mean w.mean_digits,
    )

-- a row with its modtotal has at most 205 where the form has it
abbrev row_bytes : Bool → ℕ
row_bytes marked = cond marked 205 180

marked-most : (form : ℕ) (f : RowFigures) (m : ℕ) → Digits f → m < 10 ^ 15 → length (marked_text form f m) ≤ row_bytes (leb 4 form)
unfolding mod_listing
marked-most form f m w few =
    let row = row-most f w in
    rw (marked-length form f m)
    (cases (leb 4 form) (λ e. rw e (omega (arith, number-within modtotal_key 14 m few))) (λ e. rw e (omega arith)))

-- the lines before those of the rows have at most 38
head-most : (form refs steps segs rows : ℕ) → refs < 10 ^ 4 → steps < 10 ^ 4 → segs < 10 ^ 3 → rows < 10 ^ 2
    → length (head_text form refs steps segs rows) ≤ 38
head-most form refs steps segs rows r t s n =
    omega (
      arith,
      number-within refs_key 3 refs r,
      steps-most form steps t,
      number-within segs_key 2 segs s,
      number-within rows_key 1 rows n,
      counts-length form refs steps,
      head-length form refs steps segs rows,
    )

-- a listing of at most 64 rows
all_most : (form refs steps segs : ℕ) (fs : List RowFigures) (ms : List ℕ) → refs < 10 ^ 4 → steps < 10 ^ 4 → segs < 10 ^ 3
    → length fs ≤ 64
    → ((i : ℕ) → i < length fs → length (marked_text form (get_or fs i zero_figures) (get_or ms i 0)) ≤ row_bytes (leb 4 form))
    → length (listing form refs steps segs fs ms) ≤ listing_bytes form
all_most form refs steps segs fs ms r t s few row =
    go (leb 4 form) few (head-most form refs steps segs (length fs) r t s (omega arith))
    (rows-most form fs ms (row_bytes (leb 4 form)) row)
    (listing-length form refs steps segs fs ms)
  where
    go : (b : Bool) {n rows head all : ℕ} → n ≤ 64 → head ≤ 38 → rows ≤ n * row_bytes b → all ≡ head + rows
        → all ≤ cond b most_listing older_listing
    go true few le l e = omega arith
    go false few le l e = omega arith

-- that of form 4 may have the most
pub bytes_most : (form : ℕ) → listing_bytes form ≤ most_listing
bytes_most form = cases (leb 4 form) (λ e. rw e (omega arith)) (λ e. rw e (omega arith))

module _ (v : SheetValue) (c : Valid v) where
  pub row-modtotal-within : (r : ℕ) → r < length v.head.rows → row_modtotal v r < 10 ^ 15
  row-modtotal-within r lt =
      modtotal-within (trace_of v) c.run (marks_of v.marks) (row_at v r).h (row_at v r).d (c.rows.h_within r lt)
      (c.rows.d_within r lt)

  -- the figures of a row
  row-digits : (r : ℕ) → r < length v.head.rows → Digits (figures_at v r)
  unfolding row_figures load
  row-digits r lt =
      let T = trace_of v in
      let h = (row_at v r).h in
      let d = (row_at v r).d in
      let S = sizes-within T c.run h d in
      let held : steps T * (1 * all_sizes T) ≤ 2048 * 1048320 =
      product-within (steps T) (1 * all_sizes T) 2048 1048320 c.run.steps_within (omega arith) in
      let dS = product-within d (all_sizes T) 65535 1048320 (c.rows.d_within r lt) (omega arith) in
      let priced : steps T * (d * all_sizes T) ≤ 2048 * (65535 * 1048320) =
      product-within (steps T) (d * all_sizes T) 2048 (65535 * 1048320) c.run.steps_within dS in
      let m = misses_within T c.run h d in
      let l = product-within v.head.a _ 255 (2048 * 4095) c.run.a_within (volume_within T c.run h d) in
      let M = optmem_within T c.run h d in
      record {
        h_digits = omega (arith, c.rows.h_within r lt);
        d_digits = omega (arith, c.rows.d_within r lt);
        misses_digits = omega (arith, c.run.steps_within);
        volume_digits = omega (arith, volume_within T c.run h d);
        load_digits = omega (arith, c.run.steps_within);
        optmem_digits = omega arith;
        opttotal_digits = omega (arith, opttotal_within T c.run h d (c.rows.h_within r lt) (c.rows.d_within r lt));
        optocc_digits = omega (arith, optocc_within T c.run h d);
        wsmem_digits = omega (arith, wsmem_within T c.run h d);
        wsocc_digits = omega (arith, wsocc_within T c.run h d);
        mean_digits = omega (arith, mean_within T c.run h d);
      }

  -- the listing: its rows with their figures and modtotals, after the lines before them
  pub listing-within : length (listing_of v) ≤ listing_bytes v.form
  unfolding listing_of
  listing-within =
      let n = length v.head.rows in
      let fs = tabulate n (figures_at v) in
      let ms = tabulate n (row_modtotal v) in
      let few : length fs ≡ n = length-tabulate n (figures_at v) in
      let row : (i : ℕ) → i < length fs → length (marked_text v.form (get_or fs i zero_figures) (get_or ms i 0)) ≤ row_bytes
      (leb 4 v.form) =
      λ i lt. let here : i < n = omega arith in
      rw (get_or-tabulate n (figures_at v) i zero_figures here, get_or-tabulate n (row_modtotal v) i 0 here)
      (marked-most v.form (figures_at v i) (row_modtotal v i) (row-digits i here) (row-modtotal-within i here)) in
      all_most v.form (refs_of (trace_of v)) (length v.entries) (length v.head.sizes) fs ms
      (omega (arith, refs-most (trace_of v) (length v.entries), c.run.steps_within)) (omega (arith, c.run.steps_within))
      (omega (arith, c.run.segs_within)) (omega (arith, c.rows.rows_within)) row

  -- of whatever form
  pub listing-most : length (listing_of v) ≤ most_listing
  listing-most = omega (arith, listing-within, bytes_most v.form)
