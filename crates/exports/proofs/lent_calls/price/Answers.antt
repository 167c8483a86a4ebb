-- `exports::lent_calls::price` meets its contract: the answer decides.
use Rattle.exports.proofs.Told.{accepted-tells, refused-tells}
use Rattle.exports.specs.Exported.{price_list}
use mathlib.Core.Path.{refl}
use Rattle.exports.proofs.lent_calls.price.Goals as goal

pub returns-in-Ok : goal.returns-in-Ok
returns-in-Ok c = accepted-tells price_list _ _ c.in-Ok.ensures refl

pub returns-in-Err : goal.returns-in-Err
returns-in-Err c = refused-tells price_list _ _ c.in-Err.ensures c.number.ensures
