-- `write_optimal` meets its contract: the schedule by the marks of the kept touches is the optimal one.
use Prim.Native.Nat.{◌*◌}
use mathlib.Core.Path.{refl, ap, ◌∙◌}
use mathlib.Core.List.{◌++◌}
use lib.ListN.{drop}
use Rattle.model.specs.Traces.{steps}
use Rattle.schedule.specs.inner.Runs.{trace}
use Rattle.schedule.proofs.Marks.{marks-optimal}
use Rattle.schedule.proofs.writing.write_optimal.Goals as goal

pub returns : goal.returns
returns c =
    let run = trace c.args.run.now in
    c.write_decided.ensures run refl refl
    ∙ ap (λ p. p ++ drop (32 * steps run) c.args.out.now)
    (marks-optimal run c.args.row c.kept_marks-marks.result c.kept_marks-marks.ensures)
