-- `rows::all_figures` meets its contract: the head and the entries of a standing sheet are those of its value.
use mathlib.Core.Path.{sym}
use native.Mathlib.Omega.{arith}
use lib.Seq.{length-take-le}
use Rattle.model.specs.Values.{value_of}
use Rattle.rows.proofs.all_figures.Goals as goal

pub slice_bounds-figures-end : goal.slice_bounds-figures-end
slice_bounds-figures-end c = sym (length-take-le _ _ (omega (arith, c.requires)))

pub figures-requires : goal.figures-requires
unfolding value_of
figures-requires c = let p = c.requires in
    record {
      few_segs = p.segs_within;
      few_rows = p.rows_within;
      few_warm = p.warm_within;
      rows_ok = p.valid.rows;
      run_ok = p.valid.run;
    }

pub returns : goal.returns
unfolding value_of
returns c = c.figures.ensures
