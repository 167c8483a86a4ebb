-- `exports::segtrace_rewrite` meets its contract: what the sheet reads as decides.
use Rattle.exports.proofs.Rewriting.{as_long}
use Rattle.exports.proofs.Told.{place-call, place-refused}
use Rattle.exports.specs.Exported.{rewrite_result}
use Rattle.sheet.proofs.Accepting.{on-refused, on-accepted}
use Rattle.sheet.specs.Writing.{sheet_text}
use Rattle.std.specs.Prelude.{Ok, Err}
use Rattle.exports.proofs.segtrace_rewrite.Goals as goal

pub write_within-requires : goal.write_within-requires
write_within-requires c = as_long _ _ c.in-Ok.ensures

pub returns-in-Ok : goal.returns-in-Ok
unfolding rewrite_result
returns-in-Ok c =
    rw (on-accepted _ _ c.in-Ok.ensures Err (λ v. Ok (sheet_text v)))
    (place-call c.write_within.result c.write_within.ensures c.tell.ensures)

pub returns-in-Err : goal.returns-in-Err
unfolding rewrite_result
returns-in-Err c = place-refused (on-refused _ _ c.in-Err.ensures Err (λ v. Ok (sheet_text v))) c.number.ensures
