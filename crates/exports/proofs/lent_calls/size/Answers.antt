-- `exports::lent_calls::size` meets its contract: the answer decides.
use Rattle.exports.proofs.Told.{accepted-tells, refused-tells}
use Rattle.exports.specs.Exported.{itself}
use mathlib.Core.Path.{refl}
use Rattle.exports.proofs.lent_calls.size.Goals as goal

pub returns-in-Ok : goal.returns-in-Ok
returns-in-Ok c = accepted-tells itself _ _ c.in-Ok.ensures refl

pub returns-in-Err : goal.returns-in-Err
returns-in-Err c = refused-tells itself _ _ c.in-Err.ensures c.number.ensures
