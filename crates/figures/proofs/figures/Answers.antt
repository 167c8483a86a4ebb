-- `figures::figures` meets its contract.
use Rattle.model.specs.Values.{head_value_of}
use Rattle.figures.proofs.figures.Goals as goal

pub tally-tally-requires : goal.tally-tally-requires
unfolding head_value_of
tally-tally-requires c = let p = c.requires in (p.few_rows, p.rows_ok, p.run_ok)

pub all_rows-requires : goal.all_rows-requires
unfolding head_value_of
all_rows-requires c =
    let p = c.requires in (p.few_rows, record { rows_ok = p.rows_ok; run_ok = p.run_ok; is_tally = c.tally-tally.ensures })

pub returns : goal.returns
unfolding head_value_of
returns c = c.all_rows.ensures
