-- `c_lists::recorder_list::touch_all` meets its contract.
use mathlib.Core.Path.{◌≡◌, sym, ◌∙◌}
use Rattle.std.specs.Prelude.{Ok, Err}
use Rattle.std.proofs.lemmas.Result.{err_from_is_err_and}
use Rattle.recorder.specs.Recorders.{touch_all_verdict}
use Rattle.c_lists.specs.RecorderList.{recorder_at}
use Rattle.c_lists.proofs.ListCalls.{stays, moves, all-verdict}
use Rattle.c_lists.proofs.recorder_list.touch_all.Goals as goal

pub returns-in_err-acceptable : goal.returns-in_err-acceptable
returns-in_err-acceptable c =
    let l = c.args.list.now in
    let e : Err c.in_err-acceptable.field-0.0 ≡ touch_all_verdict (recorder_at l) c.args.refs.now =
    sym c.in_err-acceptable.was ∙ rw c.min-segs.ensures at c.acceptable.ensures ∙ all-verdict l c.args.refs.now in
    let p = err_from_is_err_and c.from_residual.result c.from_residual.ensures.1 in
    record { verdict = rw (p.1, p.2) e; changed = stays _ _ _ _ e }

pub take_all-requires : goal.take_all-requires
take_all-requires c = rw c.min-segs.ensures at (sym c.acceptable.ensures ∙ c.in_ok-acceptable.was)

pub returns : goal.returns
returns c =
    let l = c.args.list.now in
    let e : Ok (tt {0}) ≡ touch_all_verdict (recorder_at l) c.args.refs.now =
    sym c.in_ok-acceptable.was ∙ rw c.min-segs.ensures at c.acceptable.ensures ∙ all-verdict l c.args.refs.now in
    record { verdict = e; changed = moves _ _ _ _ e c.take_all.ensures }
