-- `window_list::window_pass::count_reuses` meets its contract: the invariant of its loop is `Passing`.
use Prim.Native.Nat.{◌≤◌}
use mathlib.Core.Path.{◌≡◌, refl, sym, ◌∙◌}
use native.Mathlib.Omega.{arith}
use lib.ListN.{length, get_or}
use Rattle.model.specs.Traces.{entry}
use Rattle.model.proofs.Lists.{get_or-any}
use Rattle.windows.specs.Windows.{window_run}
use Rattle.window_list.specs.inner.Counts.{Room}
use Rattle.window_list.proofs.Counting.{passing_start, passing_touch, passing_idle, passing_done}
use Rattle.window_list.proofs.Counting.{reuse-room, few-touches}
use Rattle.window_list.proofs.window_pass.count_reuses.Goals.{then-i-sizes, else-i-sizes}
use Rattle.window_list.proofs.window_pass.count_reuses.Goals as goal

pub loop-t-init : goal.loop-t-init
loop-t-init c =
    let T = window_run c.args.sizes.now c.args.refs.now in
    rw (c.requires.counts_value, c.start_table-last.ensures)
    (passing_start T c.requires.run_within.segs_within c.requires.run_within.steps_within (λ i. refl))

pub count-requires : goal.count-requires
count-requires c =
    let l = c.loop-t in
    let short : l.t ≤ 2048 = omega (arith, l.invariant.within, c.requires.run_within.steps_within) in
    let room : Room l.counts = rw l.invariant.counts_are (reuse-room (window_run c.args.sizes.now c.args.refs.now) l.t short) in
    (short, room)

pub overflow_add-touches : goal.overflow_add-touches
overflow_add-touches c =
    let l = c.loop-t in
    omega (
      arith,
      l.invariant.touches_are,
      l.invariant.within,
      c.requires.run_within.steps_within,
      few-touches (window_run c.args.sizes.now c.args.refs.now) l.t,
    )

pub loop-t-preserved : goal.loop-t-preserved
loop-t-preserved c =
    let a = c.args in
    let T = window_run a.sizes.now a.refs.now in
    let l = c.loop-t in
    let lt = c.loop-t-test.true in
    let e : entry T l.t ≡ get_or a.refs.now l.t 0 = get_or-any a.refs.now l.t (length a.sizes.now) 0 lt in
    elim c.if-i-sizes.branch [
      | then-i-sizes w ↦ rw (w.counts-is, w.last-is, w.touches-is)
          (passing_touch T c.requires.run_within.segs_within c.requires.run_within.steps_within l.counts w.count.new.counts l.last
          l.touches l.t _ l.invariant lt (e ∙ sym c.from-i.ensures) w.if-i-sizes.true w.count.ensures)
      | else-i-sizes w ↦ rw (w.counts-is, w.last-is, w.touches-is)
          (passing_idle T c.requires.run_within.segs_within c.requires.run_within.steps_within l.counts l.last l.touches l.t l.invariant lt
          (omega (arith, e, c.from-i.ensures, w.if-i-sizes.false)))
    ]

pub returns : goal.returns
returns c =
    let l = c.loop-t in
    let done =
    passing_done (window_run c.args.sizes.now c.args.refs.now) c.requires.run_within.segs_within c.requires.run_within.steps_within l.counts
    l.last l.touches l.t l.invariant (omega (arith, l.invariant.within)) in
    record { touches_value = done.0; last_value = done.1; counts_after = done.2 }
