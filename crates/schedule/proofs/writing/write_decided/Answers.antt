-- `write_decided` meets its contract: the invariant of its loop is `Filling`, the measure the steps that are left.
use Prim.Native.Nat.{◌-◌}
use lib.ListN.{get_or}
use native.Mathlib.Omega.{arith}
use Rattle.schedule.proofs.Filling.{filling_start, filling_turn}
use Rattle.schedule.proofs.Segments.{segment-row}
use Rattle.schedule.proofs.writing.write_decided.Goals as goal

pub loop-t-init : goal.loop-t-init
loop-t-init c =
    let a = c.args in
    filling_start a.segments a.refs.now a.decisions.now a.out.now c.requires.2

pub loop-t-preserved : goal.loop-t-preserved
loop-t-preserved c =
    let l = c.loop-t in
    let a = c.args in
    let put = c.put_step in
    filling_turn
    a.segments
    a.refs.now
    a.decisions.now
    a.out.now
    c.requires.2
    l.next
    l.out
    put.new.next
    put.new.out
    l.t
    c.unwrap_or-i.result
    c.all_bits.result
    l.invariant
    (omega (arith, c.loop-t-test.true))
    (rw (c.segment_of.ensures, segment-row a.segments (get_or a.refs.now (l.t - 1) 0)) at c.unwrap_or-i.ensures)
    c.all_bits.ensures
    put.ensures.next_after
    put.ensures.out_after
