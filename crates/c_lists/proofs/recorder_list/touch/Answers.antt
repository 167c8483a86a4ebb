-- `c_lists::recorder_list::touch` meets its contract.
use mathlib.Core.Path.{◌≡◌, sym, ◌∙◌}
use native.Mathlib.Omega.{arith}
use lib.ListN.{get_or}
use Rattle.std.specs.Prelude.{Ok, Err}
use Rattle.std.proofs.lemmas.Result.{err_from_is_err_and}
use Rattle.recorder.specs.Recorders.{touch_verdict}
use Rattle.recorder.proofs.Answers.{ref-room}
use Rattle.c_lists.specs.RecorderList.{recorder_at}
use Rattle.c_lists.proofs.ListCalls.{stays, one-verdict, touched}
use Rattle.c_lists.proofs.recorder_list.touch.Goals as goal

pub returns-in_err-touch_verdict : goal.returns-in_err-touch_verdict
returns-in_err-touch_verdict c =
    let l = c.args.list.now in
    let e : Err c.in_err-touch_verdict.field-0.0 ≡ touch_verdict (recorder_at l) c.args.segment =
    sym c.in_err-touch_verdict.was ∙ rw c.min-segs.ensures at c.touch_verdict.ensures ∙ one-verdict l c.args.segment in
    let p = err_from_is_err_and c.from_residual.result c.from_residual.ensures.1 in
    record { verdict = rw (p.1, p.2) e; changed = stays _ _ _ _ e }

pub take-requires : goal.take-requires
take-requires c =
    let room = ref-room c.min-segs.result (get_or c.args.list.now 5 0) c.args.segment
    (sym c.touch_verdict.ensures ∙ c.in_ok-touch_verdict.was) in
    (omega (arith, room, c.min-segs.ensures), room.1)

pub returns : goal.returns
returns c =
    let l = c.args.list.now in
    let e : Ok (tt {0}) ≡ touch_verdict (recorder_at l) c.args.segment =
    sym c.in_ok-touch_verdict.was ∙ rw c.min-segs.ensures at c.touch_verdict.ensures ∙ one-verdict l c.args.segment in
    record { verdict = e; changed = touched l c.args.segment e _ c.take.ensures }
