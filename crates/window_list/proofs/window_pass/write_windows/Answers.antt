-- `window_list::window_pass::write_windows` meets its contract: the invariant of its loop is `Filling`.
use Prim.Native.Nat.{◌+◌, ◌≤◌}
use mathlib.Core.Path.{◌≡◌, refl}
use native.Mathlib.Omega.{arith}
use lib.ListN.{length, get_or}
use Rattle.model.specs.Traces.{Trace}
use Rattle.model.proofs.LastTouches.{listed-none}
use Rattle.windows.specs.Windows.{window_run, window_list}
use Rattle.window_list.specs.inner.Counts.{no_counts}
use Rattle.window_list.proofs.Counting.{ends-room, ends-done}
use Rattle.window_list.proofs.Filling.{filling_start, filling_step, count-within}
use Rattle.window_list.proofs.window_pass.write_windows.Goals.{In-loop-t, Start}
use Rattle.window_list.proofs.window_pass.write_windows.Goals as goal

abbrev runIn : Start → Trace
runIn s = window_run s.args.sizes.now s.args.refs.now

-- the count that is taken away in a turn is within what it is taken from
taken-within : (c : In-loop-t)
    → get_or c.count_ends.new.counts (c.loop-t.t + 1) 0 ≤ c.loop-t.more
taken-within c =
    let l = c.loop-t in
    count-within (window_run c.args.sizes.now c.args.refs.now) c.args.out.now l.out _ l.value l.more l.t
    c.requires.run_within.steps_within c.requires.refs_in_bounds l.invariant.1
    l.invariant.0
    c.loop-t-test.true

pub count_reuses-passed-requires-clause-counts_value : goal.count_reuses-passed-requires-clause-counts_value
unfolding no_counts
count_reuses-passed-requires-clause-counts_value c = refl

pub count_ends-requires : goal.count_ends-requires
count_ends-requires c = (
  c.requires.run_within.steps_within,
  ends-room (window_run c.args.sizes.now c.args.refs.now) c.requires.run_within.segs_within c.requires.run_within.steps_within _ _
      c.count_reuses-passed.ensures.counts_after
      c.count_reuses-passed.ensures.last_value,
)

pub loop-t-init : goal.loop-t-init
loop-t-init c = (
  filling_start (window_run c.args.sizes.now c.args.refs.now) c.args.out.now _ listed-none c.requires.run_within.steps_within
      c.count_reuses-passed.ensures.touches_value,
  ends-done (window_run c.args.sizes.now c.args.refs.now) c.requires.run_within.segs_within c.requires.run_within.steps_within _ _
      c.count_reuses-passed.ensures.counts_after
      c.count_reuses-passed.ensures.last_value _
      c.count_ends.ensures,
)

pub loop-t-preserved : goal.loop-t-preserved
loop-t-preserved c =
    let l = c.loop-t in (
      rw c.from-more.ensures
          (filling_step (window_run c.args.sizes.now c.args.refs.now) c.args.out.now l.out _ l.value l.more l.t
          c.requires.run_within.steps_within c.requires.refs_in_bounds l.invariant.1 l.invariant.0 c.loop-t-test.true),
      l.invariant.1,
    )

pub returns : goal.returns
unfolding window_list
returns c =
    let l = c.loop-t in
    let done : l.t ≡ length c.args.refs.now = omega (arith, l.invariant.0.within) in
    rw (← done) l.invariant.0.out_is

pub overflow_sub-more : goal.overflow_sub-more
overflow_sub-more c = omega (arith, c.from-more.ensures, taken-within (goal.at.overflow_sub-more c).In-loop-t)
