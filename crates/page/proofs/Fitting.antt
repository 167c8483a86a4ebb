-- Every field of the page fits its column: how large the figures of an accepted sheet can be, for each of its rows, and that the largest
-- fit.
use Prim.Native.Nat.{ℕ, ◌*◌, ◌<◌}
use native.Mathlib.Omega.{arith}
use lib.ListN.{length}
use Rattle.model.specs.Sheets.{SheetValue, Valid, trace_of, row_at, most_segs, largest_size, largest_price, most_steps}
use Rattle.model.specs.Traces.{steps}
use Rattle.model.specs.Rows.{row_figures}
use Rattle.model.specs.declared.RowFigures.{RowFigures}
use Rattle.model.proofs.Bounds.{product-within}
use Rattle.model.proofs.FigureBounds.{all_sizes, misses_within, volume_within, load_within, optmem_within, opttotal_within, optocc_within}
use Rattle.model.proofs.FigureBounds.{wsmem_within, wsocc_within, mean_within, sizes-within}
use Rattle.decimal.proofs.Written.{written-length}
use Rattle.model.specs.RowAnswers.{figures_at}
use Rattle.page.specs.Page.{Fits, NoneAbove, largest_figures}

-- for every accepted sheet and each of its rows, no figure exceeds the largest
pub none-above-largest : (s : SheetValue) → Valid s → (r : ℕ) → r < length s.head.rows → NoneAbove (figures_at s r) largest_figures
unfolding row_figures
none-above-largest s v r lt =
    let T = trace_of s in
    let c = v.run in
    let h = (row_at s r).h in
    let d = (row_at s r).d in
    let high-h = v.rows.h_within r lt in
    let high-d = v.rows.d_within r lt in
    let sizes = sizes-within T c h d in
    let held = product-within (steps T) (1 * all_sizes T) most_steps (most_segs * largest_size) c.steps_within (omega (arith, sizes)) in
    let priced = product-within d (all_sizes T) largest_price (most_segs * largest_size) high-d sizes in
    let working = product-within (steps T) (d * all_sizes T) most_steps (largest_price * (most_segs * largest_size)) c.steps_within
    priced in
    record {
      h_within = high-h;
      d_within = high-d;
      misses_within = omega (arith, misses_within T c h d, c.steps_within);
      volume_within = omega (arith, volume_within T c h d);
      load_within = omega (arith, load_within T c h d);
      optmem_within = omega (arith, optmem_within T c h d, held);
      opttotal_within = omega (arith, opttotal_within T c h d high-h high-d);
      optocc_within = omega (arith, optocc_within T c h d, held);
      wsmem_within = omega (arith, wsmem_within T c h d, working);
      wsocc_within = omega (arith, wsocc_within T c h d, working);
      mean_within = omega (arith, mean_within T c h d, sizes);
    }

-- what does not exceed the largest figures fits
pub fits-within : (f : RowFigures) → NoneAbove f largest_figures → Fits f
fits-within f b =
    record {
      h_fits = written-length 6 f.h (omega (arith, b.h_within));
      d_fits = written-length 6 f.d (omega (arith, b.d_within));
      misses_fits = written-length 7 f.misses (omega (arith, b.misses_within));
      volume_fits = written-length 11 f.volume (omega (arith, b.volume_within));
      load_fits = written-length 11 f.load.0 (omega (arith, b.load_within));
      mean_fits = written-length 11 f.mean (omega (arith, b.mean_within));
    }

-- so they do themselves; their line is written out in Examples.antt (`largest-row`)
pub largest-fit : Fits largest_figures
largest-fit =
    fits-within largest_figures
    (record {
      h_within = omega arith;
      d_within = omega arith;
      misses_within = omega arith;
      volume_within = omega arith;
      load_within = omega arith;
      optmem_within = omega arith;
      opttotal_within = omega arith;
      optocc_within = omega arith;
      wsmem_within = omega arith;
      wsocc_within = omega arith;
      mean_within = omega arith;
    })

-- for every accepted sheet and each of its rows, every field fits its column
pub every-field-fits : (s : SheetValue) → Valid s → (r : ℕ) → r < length s.head.rows → Fits (figures_at s r)
every-field-fits s v r lt = fits-within (figures_at s r) (none-above-largest s v r lt)
