-- `exports::lent_calls::all_figures` meets its contract: the records decide, and their numbers are put at the front.
use Rattle.exports.proofs.Found.{found-fits, found-refuses}
use Rattle.exports.proofs.Told.{place-call}
use Rattle.std.specs.Prelude.{Ok, Err}
use Rattle.text.proofs.Placing.{text-put}
use mathlib.Core.Path.{refl}
use native.Mathlib.Omega.{arith}
use Rattle.exports.proofs.lent_calls.all_figures.Goals as goal

pub put_rows-end-requires : goal.put_rows-end-requires
put_rows-end-requires c = let f = found-fits _ c.args.out.now _ c.in-Ok.ensures in (f.most, f.room)

pub returns-in-Ok : goal.returns-in-Ok
returns-in-Ok c =
    let f = found-fits _ c.args.out.now _ c.in-Ok.ensures in
    place-call (Ok c.put_rows-end.result)
    (rw f.result (text-put _ _ _ _ _ (omega (arith, c.put_rows-end.ensures.ends)) c.put_rows-end.ensures))
    (refl, refl)

pub returns-in-Err : goal.returns-in-Err
returns-in-Err c = place-call (Err _) (found-refuses _ _ c.in-Err.ensures) (c.number.ensures, refl)
