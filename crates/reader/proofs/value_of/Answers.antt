-- `value_of` meets its contract: beyond as many lines as there are bytes nothing is shown.
use native.Mathlib.Omega.{arith}
use Rattle.reader.proofs.Places.{value_none}
use Rattle.reader.proofs.value_of.Goals as goal

pub returns-then-s-n : goal.returns-then-s-n
returns-then-s-n c = let a = c.args in value_none a.n a.s.now (omega arith)
