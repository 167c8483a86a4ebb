-- `row_records::zero_list` meets its contract: each record is zero.
use mathlib.Core.Path.{refl}
use Rattle.model.specs.Rows.{zero_figures}
use Rattle.model.specs.Sheets.{most_rows}
use Rattle.model.proofs.Tables.{tabulate-const}
use Rattle.row_records.specs.Held.{zero_list}
use Rattle.row_records.proofs.zero_list.Goals as goal

pub returns : goal.returns
unfolding zero_list
returns c = rw (c.zero.ensures, ← tabulate-const most_rows zero_figures (λ i. zero_figures) (λ j lt. refl))
