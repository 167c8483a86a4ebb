-- `c_lists::recorder_list::idle` meets its contract.
use mathlib.Core.Path.{◌≡◌, refl, sym, ◌∙◌}
use Rattle.std.specs.Prelude.{Ok, Err}
use Rattle.std.proofs.lemmas.Result.{err_from_is_err_and}
use Rattle.recorder.specs.Recorders.{idle_verdict}
use Rattle.recorder.proofs.Answers.{refused-accepted}
use Rattle.c_lists.specs.RecorderList.{recorder_at}
use Rattle.c_lists.proofs.ListCalls.{stays, step-verdict, idled}
use Rattle.c_lists.proofs.recorder_list.idle.Goals as goal

pub returns-in_err-idle_verdict : goal.returns-in_err-idle_verdict
returns-in_err-idle_verdict c =
    let l = c.args.list.now in
    let e : Err c.in_err-idle_verdict.field-0.0 ≡ idle_verdict (recorder_at l) =
    sym c.in_err-idle_verdict.was ∙ c.idle_verdict.ensures ∙ step-verdict l in
    let p = err_from_is_err_and c.from_residual.result c.from_residual.ensures.1 in
    (rw (p.1, p.2) e, stays _ _ _ _ e, λ a. refused-accepted _ (e ∙ a))

pub returns : goal.returns
returns c =
    let l = c.args.list.now in
    let e : Ok (tt {0}) ≡ idle_verdict (recorder_at l) = sym c.in_ok-idle_verdict.was ∙ c.idle_verdict.ensures ∙ step-verdict l in
    (e, idled l e, λ a. refl)
