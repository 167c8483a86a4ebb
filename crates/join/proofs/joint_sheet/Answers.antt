-- `joint_sheet` meets its contract: the head and the entries put together are those of the definition.
use native.Mathlib.Omega.{arith}
use Rattle.model.specs.Values.{blank_marks}
use Rattle.join.proofs.Held.{sheet-made}
use Rattle.join.proofs.joint_sheet.Goals as goal

pub returns : goal.returns
unfolding blank_marks
returns c =
    let a = c.args in
    sheet-made a.p.now a.q.now a.xs.now a.ys.now _ _ _ c.joint_head.ensures (omega arith) c.joint_touches.ensures
