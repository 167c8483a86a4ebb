-- `figures::rows::all_rows` meets its contract. The loop's invariant: `kept` and `ends` are the sums of the buckets passed, and `out` has
-- the figures of the rows passed.
use Prim.Native.Nat.{suc, ◌<◌}
use mathlib.Core.Path.{◌≡◌, refl, sym, ◌∙◌}
use native.Mathlib.Nat.{le_antisymm}
use native.Mathlib.Numerals.{add-one}
use native.Mathlib.Omega.{arith}
use lib.ListN.{length, take, length-take}
use Rattle.model.specs.Sheets.{row_in, run_of}
use Rattle.figures.specs.inner.Sweep.{summed, with_start}
use Rattle.figures.proofs.Sweeps.{holds-within, summed-none, summed-suc, summed-more, holds_more}
use Rattle.figures.proofs.Sweeping.{figures-none, figures-suc, figures-all, SweptTo, tallied-buckets, tallied-ends}
use Rattle.figures.proofs.Sweeping.{all_from, all-fits, tallied-all, tallied-cost, tallied-volume, tallied_fits, tallied_row}
use Rattle.figures.proofs.Starts.{starts-are}
use Rattle.figures.proofs.rows.all_rows.Goals.{After-plus-ends, After-start_swaps, In-loop-r}
use Rattle.figures.proofs.rows.all_rows.Goals as goal

-- a turn's row is within the array's 64
few : (c : In-loop-r) → c.loop-r.r < 64
few c = omega (arith, c.loop-r-test.true, c.requires.0, length-take c.args.rows c.args.prices)

-- the sums of all buckets with those of the warm segments
all-from : (c : After-start_swaps)
    → with_start c.start_swaps.result c.add_up-touches.result
    ≡ all_from (take c.args.rows c.args.prices) (run_of c.args.kind c.args.a c.args.sizes.now c.args.warm.now c.args.refs.now)
    c.args.tally.now c.requires.1
all-from c =
    tallied-all (take c.args.rows c.args.prices) (run_of c.args.kind c.args.a c.args.sizes.now c.args.warm.now c.args.refs.now)
    c.args.tally.now c.requires.1 c.add_up-touches.ensures
    (c.start_swaps.ensures ∙ starts-are c.args.kind _ _ _ c.args.refs.now)

-- after both sums and the row's prices, the sweep is at the turn's row
swept-to : (c : After-plus-ends)
    → SweptTo (take c.args.rows c.args.prices) (run_of c.args.kind c.args.a c.args.sizes.now c.args.warm.now c.args.refs.now) c.args.tally.now
    c.requires.1
    c.loop-r.r
    (row_in (take c.args.rows c.args.prices) c.loop-r.r)
    (record {
      cost = record { 0 = c.by_kind.result };
      volume = c.add_up-touches.result.volume;
      all = c.with_start-all.result;
      kept = c.plus-kept.result;
      ends = c.plus-ends.result;
    })
swept-to c =
    let all-from' : with_start c.start_swaps.result c.add_up-touches.result
    ≡ all_from (take c.args.rows c.args.prices) (run_of c.args.kind c.args.a c.args.sizes.now c.args.warm.now c.args.refs.now)
    c.args.tally.now c.requires.1 = tallied-all (take c.args.rows c.args.prices)
    (run_of c.args.kind c.args.a c.args.sizes.now c.args.warm.now c.args.refs.now) c.args.tally.now c.requires.1 c.add_up-touches.ensures
    (c.start_swaps.ensures ∙ starts-are c.args.kind _ _ _ c.args.refs.now) in
    let r = c.loop-r.r in
    let touches = c.add_up-touches.ensures in
    record {
      row_is = refl;
      cost_is = c.by_kind.ensures ∙ tallied-cost (take c.args.rows c.args.prices)
          (run_of c.args.kind c.args.a c.args.sizes.now c.args.warm.now c.args.refs.now) c.args.tally.now c.requires.1 touches;
      volume_is = tallied-volume (take c.args.rows c.args.prices)
          (run_of c.args.kind c.args.a c.args.sizes.now c.args.warm.now c.args.refs.now) c.args.tally.now c.requires.1 touches;
      all_is = c.with_start-all.ensures ∙ all-from';
      kept_is = summed-more c.args.tally.now.buckets r c.loop-r.invariant.0 c.plus-kept.ensures;
      ends_is = summed-more c.args.tally.now.ends r c.loop-r.invariant.1 c.plus-ends.ensures;
    }

pub add_up-touches-requires : goal.add_up-touches-requires
add_up-touches-requires c =
    tallied-buckets (take c.args.rows c.args.prices) (run_of c.args.kind c.args.a c.args.sizes.now c.args.warm.now c.args.refs.now)
    c.args.tally.now c.requires.1

pub start_swaps-requires : goal.start_swaps-requires
start_swaps-requires c = c.requires.1.run_ok.segs_within

pub with_start-all-requires : goal.with_start-all-requires
with_start-all-requires c =
    rw (all-from (goal.at.with_start-all-requires c).After-start_swaps) (all-fits (take c.args.rows c.args.prices)
    (run_of c.args.kind c.args.a c.args.sizes.now c.args.warm.now c.args.refs.now) c.args.tally.now c.requires.1)

pub loop-r-init : goal.loop-r-init
loop-r-init c = (
  sym (summed-none c.args.tally.now.buckets),
  sym (summed-none c.args.tally.now.ends),
  c.no_figures-out.ensures ∙ figures-none (take c.args.rows c.args.prices)
      (run_of c.args.kind c.args.a c.args.sizes.now c.args.warm.now c.args.refs.now),
)

pub plus-kept-requires : goal.plus-kept-requires
plus-kept-requires c =
    let r = c.loop-r.r in
    holds-within _
    (rw (c.loop-r.invariant.0, ← summed-suc c.args.tally.now.buckets r)
    (tallied-buckets (take c.args.rows c.args.prices) (run_of c.args.kind c.args.a c.args.sizes.now c.args.warm.now c.args.refs.now)
    c.args.tally.now c.requires.1 (suc r) (omega (arith, few (goal.at.plus-kept-requires c).In-loop-r))))

pub plus-ends-requires : goal.plus-ends-requires
plus-ends-requires c =
    let r = c.loop-r.r in
    holds-within _
    (rw (c.loop-r.invariant.1, ← summed-suc c.args.tally.now.ends r)
    (holds_more (summed c.args.tally.now.ends (suc r))
    (tallied-ends (take c.args.rows c.args.prices) (run_of c.args.kind c.args.a c.args.sizes.now c.args.warm.now c.args.refs.now)
    c.args.tally.now c.requires.1 (suc r) (omega (arith, few (goal.at.plus-ends-requires c).In-loop-r)))))

pub figures-requires : goal.figures-requires
figures-requires c =
    tallied_fits (take c.args.rows c.args.prices) (run_of c.args.kind c.args.a c.args.sizes.now c.args.warm.now c.args.refs.now)
    c.args.tally.now c.requires.1 c.loop-r.r c.loop-r-test.true (swept-to (goal.at.figures-requires c).After-plus-ends)

pub loop-r-preserved : goal.loop-r-preserved
loop-r-preserved c =
    let r = c.loop-r.r in
    let swept = swept-to (goal.at.loop-r-preserved c).After-plus-ends in
    rw (add-one r) (
      swept.kept_is,
      swept.ends_is,
      figures-suc (take c.args.rows c.args.prices) (run_of c.args.kind c.args.a c.args.sizes.now c.args.warm.now c.args.refs.now) r
          (omega (arith, few (goal.at.loop-r-preserved c).In-loop-r)) c.loop-r.invariant.2
          (tallied_row (take c.args.rows c.args.prices) (run_of c.args.kind c.args.a c.args.sizes.now c.args.warm.now c.args.refs.now)
          c.args.tally.now c.requires.1 r c.loop-r-test.true swept c.figures.ensures),
    )

pub returns : goal.returns
returns c =
    let whole : c.loop-r.r ≡ length (take c.args.rows c.args.prices) = le_antisymm c.loop-r.auto.r-end c.loop-r-test.false in
    c.loop-r.invariant.2 ∙ rw whole
    (figures-all (take c.args.rows c.args.prices) (run_of c.args.kind c.args.a c.args.sizes.now c.args.warm.now c.args.refs.now))
