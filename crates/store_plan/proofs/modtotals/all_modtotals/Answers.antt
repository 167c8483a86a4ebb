-- `all_modtotals` meets its contract: the rows are those of the sheet's value.
use mathlib.Core.Path.{◌≡◌, sym, ap, ◌∙◌}
use lib.ListN.{length}
use Rattle.model.specs.Values.{value_of}
use Rattle.model.proofs.Standing.{marks-counted, marks-steps, steps-counted}
use Rattle.store_plan.proofs.RowTotals.{opttotal-of}
use Rattle.store_plan.proofs.modtotals.all_modtotals.Goals as goal

pub first_modtotals-requires : goal.first_modtotals-requires
unfolding value_of
first_modtotals-requires c =
    let s = c.args.s in
    let ok = c.requires.0 in
    let counted : length c.of_sheet-run.result.refs.now ≡ length (value_of s).entries = ap (λ T. length T.entries) c.of_sheet-run.ensures in
    record {
      run_within = (
        rw c.of_sheet-run.ensures ok.valid.run,
        marks-counted s ok ∙ marks-steps s ok c.requires.1 ∙ sym (counted ∙ steps-counted s ok),
        ok.rows_within,
      );
      by_index = rw c.of_sheet-run.ensures (opttotal-of s ok c.args.all c.requires.2);
    }

pub returns : goal.returns
unfolding value_of
returns c = rw c.of_sheet-run.ensures at c.first_modtotals.ensures
