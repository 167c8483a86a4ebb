-- `write_modified` meets its contract: the schedule by the decisions is the one of the least total.
use Prim.Native.Nat.{◌*◌}
use mathlib.Core.Path.{refl, ap, ◌∙◌}
use mathlib.Core.List.{◌++◌}
use lib.ListN.{drop}
use Rattle.model.specs.Sheets.{marks_of}
use Rattle.model.specs.Traces.{steps}
use Rattle.schedule.specs.inner.Runs.{trace}
use Rattle.store_plan.proofs.Folding.{decides-schedule}
use Rattle.store_plan.proofs.write_modified.Goals as goal

pub returns : goal.returns
returns c =
    let a = c.args in
    let run = trace a.run.now in
    c.write_decided.ensures run refl refl
    ∙ ap (λ p. p ++ drop (32 * steps run) a.out.now)
    (decides-schedule run (marks_of a.marks.now) a.row c.mod_decisions-decisions.result c.mod_decisions-decisions.ensures)
