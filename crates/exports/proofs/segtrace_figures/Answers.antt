-- `exports::segtrace_figures` meets its contract: the answer decides.
use Rattle.c_lists.specs.Figures.{figure_list}
use Rattle.exports.proofs.Told.{accepted-tells, refused-tells}
use Rattle.exports.proofs.segtrace_figures.Goals as goal

pub returns-in-Ok : goal.returns-in-Ok
returns-in-Ok c = accepted-tells figure_list _ _ c.in-Ok.ensures c.of_row.ensures

pub returns-in-Err : goal.returns-in-Err
returns-in-Err c = refused-tells figure_list _ _ c.in-Err.ensures c.number.ensures
