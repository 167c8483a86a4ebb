-- `joint_head` meets its contract: the parts put together are those of the definition.
use mathlib.Core.Path.{◌≡◌}
use native.Mathlib.Omega.{arith}
use borrow.Author.Rules.{rules}
use lib.ListN.{length}
use Rattle.join.proofs.HeldHead.{joint-held}
use Rattle.join.proofs.joint_heads.joint_head.Goals as goal

pub returns : goal.returns
returns c =
    let p = c.args.p.now in
    let q = c.args.q.now in
    let sizes : (length p.sizes ≡ 256) × (length q.sizes ≡ 256) = search rules in
    let holds : (length p.holds ≡ 256) × (length q.holds ≡ 256) = search rules in
    joint-held p q (omega (arith, c.requires.segs)) (omega (arith, c.requires.segs)) (omega (arith, c.requires.warm))
    (omega (arith, c.requires.warm)) (omega (arith, c.requires.prices, c.requires.rows)) _ _ _
    c.joint_numbers.ensures c.joint_numbers-2.ensures c.first_rows.ensures
