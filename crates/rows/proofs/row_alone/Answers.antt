-- `rows::row_alone` meets its contract: the row alone is within the limits, and it has the figures.
use mathlib.Core.Path.{sym, ap, ◌∙◌}
use native.Mathlib.Omega.{arith}
use lib.ListN.{get_or}
use lib.Seq.{length-take-le}
use Rattle.model.specs.Rows.{zero_figures}
use Rattle.model.specs.Values.{head_value_of, value_of}
use Rattle.model.proofs.Standing.{rows-counted, row_of}
use Rattle.model.specs.RowAnswers.{all_figures}
use Rattle.rows.proofs.Alone.{with_row, row-alone-within, alone-figures}
use Rattle.rows.proofs.row_alone.Goals as goal

pub slice_bounds-figures-end : goal.slice_bounds-figures-end
slice_bounds-figures-end c = sym (length-take-le _ _ (omega (arith, c.requires.0)))

pub figures-only-requires : goal.figures-only-requires
unfolding value_of head_value_of
figures-only-requires c =
    let n = rows-counted c.args.s c.requires.0 in record {
      few_segs = c.requires.0.segs_within;
      few_rows = omega arith;
      few_warm = c.requires.0.warm_within;
      rows_ok = rw (row_of c.args.s c.requires.0 c.args.row c.requires.1)
          at (row-alone-within (value_of c.args.s).head.rows c.requires.0.valid.rows c.args.row (omega (arith, c.requires.1)));
      run_ok = c.requires.0.valid.run;
    }

pub returns : goal.returns
unfolding value_of head_value_of
returns c =
    let v = value_of c.args.s in
    ap (λ fs. get_or fs 0 zero_figures) c.figures-only.ensures
    ∙ ap (λ q. get_or (all_figures (with_row v q)) 0 zero_figures)
    (sym (row_of c.args.s c.requires.0 c.args.row c.requires.1))
    ∙ alone-figures v c.args.row zero_figures
