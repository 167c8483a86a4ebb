-- `lru_curve::recency_list::walk_along` meets its contract: the entries looked at so far are not x, and each is counted.
use Prim.Native.Nat.{ℕ, suc, ◌+◌}
use mathlib.Core.Path.{◌≡◌, ap, ◌∙◌}
use native.Mathlib.Numerals.{add-one}
use native.Mathlib.Omega.{arith}
use lib.ListN.{length}
use Rattle.lru_curve.proofs.Indexes.{index-next, index-here, index-none, walked, walk-found, walk_none}
use Rattle.lru_curve.proofs.recency_list.walk_along.Goals as goal

pub returns-then-entry-x : goal.returns-then-entry-x
returns-then-entry-x c =
    let l = c.loop-before in
    let here = index-here _ _ l.before l.invariant.1 c.loop-before-test.true c.if-entry-x.true in
    let counted : l.looked + 1 ≡ suc l.before = omega (arith, l.invariant.0) in
    ap (λ (k : ℕ). walked l.before k) counted ∙ walk-found _ _ l.before here c.loop-before-test.true

pub loop-before-preserved : goal.loop-before-preserved
loop-before-preserved c =
    let l = c.loop-before in (
      omega (arith, l.invariant.0),
      rw (add-one l.before) (index-next _ _ l.before l.invariant.1 c.loop-before-test.true c.if-entry-x.false),
    )

pub returns : goal.returns
returns c =
    let l = c.loop-before in
    let all : l.before ≡ length c.args.list.now = omega arith in
    let end = index-none _ _ l.before l.invariant.1 c.loop-before-test.false in
    rw (l.invariant.0, ← all) (walk_none _ _ l.before end all)
