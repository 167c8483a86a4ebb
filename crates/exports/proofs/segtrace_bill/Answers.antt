-- `exports::segtrace_bill` meets its contract: the answer decides.
use Rattle.exports.proofs.Told.{accepted-tells, refused-tells}
use Rattle.exports.specs.Exported.{in_cents}
use mathlib.Core.Path.{refl}
use Rattle.exports.proofs.segtrace_bill.Goals as goal

pub returns-in-Ok : goal.returns-in-Ok
returns-in-Ok c = accepted-tells in_cents _ _ c.in-Ok.ensures refl

pub returns-in-Err : goal.returns-in-Err
returns-in-Err c = refused-tells in_cents _ _ c.in-Err.ensures c.number.ensures
