-- `put_step` meets its contract: the invariant of its loop is `Copied`, the measure the bytes that are left.
use mathlib.Core.Path.{◌≡◌}
use native.Mathlib.Omega.{arith}
use Rattle.schedule.proofs.Copying.{copied_step, copied_next}
use Rattle.schedule.proofs.writing.put_step.Goals as goal

pub loop-j-preserved : goal.loop-j-preserved
loop-j-preserved c =
    let a = c.args in
    let l = c.loop-j in
    copied_step
    a.next.now
    a.out.now
    a.i
    a.on
    a.at
    c.requires.2
    c.requires.3
    a.masks.now
    l.next
    l.out
    l.j
    c.masked.result
    c.masked-in-loop-j.result
    c.requires.0
    c.requires.1
    l.invariant
    (omega arith)
    c.masked.ensures
    c.masked-in-loop-j.ensures

pub returns : goal.returns
returns c =
    let a = c.args in
    let l = c.loop-j in
    let all : l.j ≡ 32 = omega arith in
    let v = rw all at l.invariant in
    record { next_after = copied_next a.next.now a.out.now a.i a.on a.at c.requires.2 c.requires.3 l.next l.out v; out_after = v.out_is }
