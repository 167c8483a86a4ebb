-- `lru_curve::distance_pass::bring` meets its contract: there is room for x.
use native.Mathlib.Omega.{arith}
use lib.ListN.{take}
use lib.Seq.{length-take-le}
use Rattle.lru_curve.proofs.Indexes.{before-within}
use Rattle.lru_curve.proofs.distance_pass.bring.Goals as goal

pub put_first-requires : goal.put_first-requires
put_first-requires c =
    let front = length-take-le c.args.n c.args.list.now (omega (arith, c.requires)) in
    omega (arith, before-within c.args.x (take c.args.n c.args.list.now) c.walk_to-w.ensures, front, c.requires)

pub returns : goal.returns
returns c = record { value = c.walk_to-w.ensures; list_after = c.put_first.ensures }
