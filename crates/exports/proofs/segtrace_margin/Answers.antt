-- `exports::segtrace_margin` meets its contract: the answer decides.
use Rattle.exports.proofs.Told.{accepted-tells, refused-tells}
use Rattle.exports.specs.Exported.{itself}
use mir.Syntax.{w64}
use mir.ValLaws.{to_z-of_z}
use Rattle.exports.proofs.segtrace_margin.Goals as goal

pub returns-in-Ok : goal.returns-in-Ok
returns-in-Ok c =
    let t = rw c.in-Ok.is at c.margin.type_inv in
    accepted-tells itself _ _ c.in-Ok.ensures (to_z-of_z w64 _ (record { sfits = t.1.1.1.1.0.1 }))

pub returns-in-Err : goal.returns-in-Err
returns-in-Err c = refused-tells itself _ _ c.in-Err.ensures c.number.ensures
