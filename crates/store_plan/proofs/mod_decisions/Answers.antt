-- `mod_decisions` meets its contract: the decisions folded from what is found are those of the schedule of the least total.
use mathlib.Core.Path.{refl}
use Rattle.model.specs.Sheets.{marks_of}
use Rattle.schedule.specs.inner.Runs.{trace}
use Rattle.store_plan.proofs.Folding.{folded-decides}
use Rattle.store_plan.proofs.mod_decisions.Goals as goal

pub returns : goal.returns
returns c =
    let a = c.args in
    let run = trace a.run.now in
    folded-decides run (marks_of a.marks.now) a.row c.find-found.result c.fold.result c.find-found.ensures
    (c.fold.ensures run refl refl)
