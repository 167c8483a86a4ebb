-- `margin::unreferenced_time` meets its contract.
use Prim.Native.Nat.{◌-◌}
use mathlib.Core.Path.{◌≡◌, ◌∙◌}
use native.Mathlib.Omega.{arith}
use Rattle.margin.proofs.Times.{since_start, since_before, since_found, since_none}
use Rattle.margin.proofs.unreferenced_time.Goals as goal

pub loop-i-init : goal.loop-i-init
loop-i-init c = since_start _ _ _

pub loop-i-preserved : goal.loop-i-preserved
loop-i-preserved c =
    since_before _ _ _ _ (c.loop-i.i - 1) (omega arith) (omega (arith, c.loop-i.auto.i, c.requires.0)) c.loop-i.invariant
    c.if-refs-i.false

pub returns-then-refs-i : goal.returns-then-refs-i
returns-then-refs-i c T is seg start =
    let same : c.args.t - (c.loop-i.i - 1) - 1 ≡ c.args.t - c.loop-i.i = omega (arith, c.loop-i-test.true) in
    rw same
    (since_found _ _ _ _ (c.loop-i.i - 1) (omega arith) (omega (arith, c.loop-i.auto.i, c.requires.0)) c.loop-i.invariant
    c.if-refs-i.true T is seg)

pub returns : goal.returns
returns c T is seg start =
    let all : c.loop-i.i ≡ 0 = omega arith in
    c.then_some.ensures ∙ since_none _ _ _ (rw all at c.loop-i.invariant) _ T is seg start
