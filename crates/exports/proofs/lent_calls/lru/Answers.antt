-- `exports::lent_calls::lru` meets its contract: what was told of the answer of the misses.
use Rattle.exports.proofs.Told.{lru-call}
use Rattle.std.specs.Prelude.{Ok, Err}
use mathlib.Core.Path.{refl}
use Rattle.exports.proofs.lent_calls.lru.Goals as goal

pub returns-in-Ok : goal.returns-in-Ok
returns-in-Ok c = lru-call (Ok _) c.in-Ok.ensures c.tell.ensures refl

pub returns-in-Err : goal.returns-in-Err
returns-in-Err c = lru-call (Err _) c.in-Err.ensures c.tell-in-Err.ensures refl
