-- `point_list::point_sums::points` meets its contract: a place too short for the numbers is refused and stays, else they stand at its head.
use Prim.Native.Nat.{suc, ◌≤◌}
use mathlib.Core.Path.{◌≡◌, sym}
use native.Mathlib.Omega.{arith}
use lib.ListN.{length, take}
use lib.Seq.{length-take-le}
use Rattle.model.specs.Sheets.{run_of}
use Rattle.point_list.specs.inner.Walk.{places, ended}
use Rattle.point_list.proofs.Fine.{held-few, held-quotable}
use Rattle.point_list.proofs.Keys.{sorted-taken}
use Rattle.point_list.proofs.Ordered.{SortedRun, sorted-run}
use Rattle.point_list.proofs.Running.{points-short, points-placed, all-summable}
use Rattle.point_list.proofs.Writing.{ended-most}
use Rattle.point_list.proofs.point_sums.points.Goals.{After-count_points-length, After-reuses-whole}
use Rattle.point_list.proofs.point_sums.points.Goals as goal

-- the reuses are few
few-reuses : (c : After-reuses-whole) → c.reuses-whole.result.count ≤ places
few-reuses c = held-few c.requires c.reuses-whole.ensures.held

-- there is a key for each reuse, sorted
size : (c : After-count_points-length) → length (take c.reuses-whole.result.count c.sorted_keys.new.keys) ≡ c.reuses-whole.result.count
size c =
    let few : c.reuses-whole.result.count ≤ places = held-few c.requires c.reuses-whole.ensures.held in
    length-take-le c.reuses-whole.result.count c.sorted_keys.new.keys (omega arith)

sorted : (c : After-count_points-length)
    → SortedRun (run_of c.args.kind c.args.a c.args.sizes.now c.args.warm.now c.args.refs.now) c.reuses-whole.new.rs c.reuses-whole.new.ws
    (take c.reuses-whole.result.count c.sorted_keys.new.keys) c.reuses-whole.result.count
sorted c = sorted-run c.requires c.reuses-whole.ensures.held (sorted-taken c.sorted_keys.ensures)

counted : (c : After-count_points-length) → c.count_points-length.result
    ≡ suc (ended (take c.reuses-whole.result.count c.sorted_keys.new.keys) c.reuses-whole.result.count)
counted c = rw (size c) at c.count_points-length.ensures

pub sorted_keys-requires : goal.sorted_keys-requires
sorted_keys-requires c =
    let few = few-reuses (goal.at.sorted_keys-requires c).After-reuses-whole in
    record {
      quotable = held-quotable c.requires c.reuses-whole.ensures.held (omega arith) (omega arith);
      keys_long = omega arith;
      other_long = omega arith;
    }

pub slice_bounds-keys-end : goal.slice_bounds-keys-end
slice_bounds-keys-end c = let few = few-reuses (goal.at.slice_bounds-keys-end c).After-reuses-whole in omega arith

pub slice_bounds-sorted-end : goal.slice_bounds-sorted-end
slice_bounds-sorted-end c =
    let few = few-reuses (goal.at.slice_bounds-sorted-end c).After-reuses-whole in
    sym (length-take-le _ _ (omega arith))

pub count_points-length-requires : goal.count_points-length-requires
count_points-length-requires c =
    let few = few-reuses (goal.at.count_points-length-requires c).After-reuses-whole in
    rw (length-take-le c.reuses-whole.result.count c.sorted_keys.new.keys (omega arith)) few

pub overflow_mul-length : goal.overflow_mul-length
overflow_mul-length c =
    let few : c.reuses-whole.result.count ≤ places = held-few c.requires c.reuses-whole.ensures.held in
    omega (arith, counted c, ended-most (take c.reuses-whole.result.count c.sorted_keys.new.keys) c.reuses-whole.result.count)

pub returns-then-out-length : goal.returns-then-out-length
returns-then-out-length c =
    let p = (goal.at.returns-then-out-length c).After-count_points-length in
    points-short (sorted p) c.reuses-whole.ensures.memory_is c.reuses-whole.ensures.load_is (counted p) c.if-out-length.true

pub write_points-requires : goal.write_points-requires
write_points-requires c =
    let p = (goal.at.write_points-requires c).After-count_points-length in
    let few = few-reuses (goal.at.write_points-requires c).After-reuses-whole in
    let size' = size p in
    rw size'
    record {
      sums =
          all-summable (sorted p) c.reuses-whole.ensures.memory_is c.reuses-whole.ensures.load_is (omega arith) (omega arith) (omega arith);
      room = omega (arith, counted p, c.if-out-length.false);
    }

pub returns : goal.returns
returns c =
    let p = (goal.at.returns c).After-count_points-length in
    points-placed (sorted p) c.reuses-whole.ensures.memory_is c.reuses-whole.ensures.load_is (counted p)
    (rw (size p) at c.write_points.ensures) c.if-out-length.false
