-- `pass::references` meets its contract. The invariant of its loop is `Passing`, the measure the references that are left.
use Prim.Native.Nat.{ℕ, ◌+◌, ◌*◌, ◌^◌, ◌<◌}
use mathlib.Core.List.{List, ◌++◌}
use mathlib.Core.Path.{◌≡◌}
use native.Mathlib.Omega.{arith}
use lib.ListN.{length, get_or, length-append}
use Rattle.model.specs.Sheets.{run_of}
use Rattle.model.specs.Traces.{entry}
use Rattle.buckets.specs.inner.Pass.{Limited}
use Rattle.buckets.proofs.Filling.{roomy-touch, roomy-more}
use Rattle.buckets.proofs.Passing.{pass_step, pass-idle, entry-on}
use Rattle.buckets.proofs.Touches.{placed, placed-limited, placed-is, touch-priceable}
use Rattle.buckets.proofs.pass.references.Goals.{After-bucket_of-k, In-loop-t, Then-i-sizes, then-i-sizes, else-i-sizes}
use Rattle.buckets.proofs.pass.references.Goals as goal

-- the steps are within the limits
few : (c : In-loop-t) → c.args.steps + c.loop-t.t < 2048
few c = omega (arith, c.loop-t-test.true, c.requires.few_steps)

-- the touched segment is among those of the table
in_table : (c : Then-i-sizes) → get_or c.args.refs.now c.loop-t.t 0 < 256
in_table c = omega (arith, c.if-i-sizes.true, c.requires.few_segs)

-- the touch with its bucket
touch-limited : (c : After-bucket_of-k) → Limited (placed c.touch_of-x.result c.bucket_of-k.result)
touch-limited c = placed-limited _ _ c.touch_of-x.ensures.within c.bucket_of-k.ensures.within

-- the entry of the turn's step, for any entries before
here : (c : In-loop-t) (warm before : List ℕ) → length before ≡ c.args.steps
    → entry (run_of c.args.kind c.args.a c.args.sizes.now warm (before ++ c.args.refs.now))
    (c.args.steps + c.loop-t.t)
    ≡ get_or c.args.refs.now c.loop-t.t 0
here c warm before at =
    entry-on c.args.kind c.args.a c.args.sizes.now warm before _ _ _ at c.loop-t-test.true

-- which is one of the run's
in-run : (c : In-loop-t) (before : List ℕ) → length before ≡ c.args.steps
    → c.args.steps + c.loop-t.t < length (before ++ c.args.refs.now)
in-run c before at = omega (arith, length-append before c.args.refs.now, c.loop-t-test.true)

pub loop-t-init : goal.loop-t-init
loop-t-init c =
    let same : c.args.steps + 0 ≡ c.args.steps = omega arith in
    record {
      within = omega arith;
      roomy = roomy-more _ (2 ^ 60) (2 ^ 60 + 0 * 2 ^ 48) (omega arith) c.requires.roomy;
      passed = λ list of warm before at run is. rw same is;
    }

pub overflow_cast-i : goal.overflow_cast-i
overflow_cast-i c = omega (arith, c.type_inv.refs c.loop-t.t)

pub overflow_add-step : goal.overflow_add-step
overflow_add-step c = omega (arith, few (goal.at.overflow_add-step c).In-loop-t)

pub offset_bounds-sizes-i : goal.offset_bounds-sizes-i
offset_bounds-sizes-i c = omega (arith, in_table c)

pub bounds-sizes-i : goal.bounds-sizes-i
bounds-sizes-i c = c.if-i-sizes.true

pub offset_bounds-last-i : goal.offset_bounds-last-i
offset_bounds-last-i c = omega (arith, in_table (goal.at.offset_bounds-last-i c).Then-i-sizes)

pub bounds-last-i : goal.bounds-last-i
bounds-last-i c = in_table (goal.at.bounds-last-i c).Then-i-sizes

pub overflow_cast-step : goal.overflow_cast-step
overflow_cast-step c = omega (arith, few (goal.at.overflow_cast-step c).In-loop-t)

pub bucket_of-k-requires : goal.bucket_of-k-requires
bucket_of-k-requires c =
    touch-priceable _ c.touch_of-x.ensures.within

pub add_touch-requires : goal.add_touch-requires
add_touch-requires c =
    record {
      within = omega (
        arith,
        c.loop-t.invariant.roomy.each _ c.bucket_of-k.ensures.within,
        few (goal.at.add_touch-requires c).In-loop-t,
      );
      limited = touch-limited (goal.at.add_touch-requires c).After-bucket_of-k;
    }

pub overflow_add-last : goal.overflow_add-last
overflow_add-last c = omega (arith, few (goal.at.overflow_add-last c).In-loop-t)

pub overflow_cast-last : goal.overflow_cast-last
overflow_cast-last c = omega (arith, few (goal.at.overflow_cast-last c).In-loop-t)

pub offset_bounds-last-i-then-i-sizes : goal.offset_bounds-last-i-then-i-sizes
offset_bounds-last-i-then-i-sizes c = omega (arith, in_table (goal.at.offset_bounds-last-i-then-i-sizes c).Then-i-sizes)

pub bounds-last-i-then-i-sizes : goal.bounds-last-i-then-i-sizes
bounds-last-i-then-i-sizes c = in_table (goal.at.bounds-last-i-then-i-sizes c).Then-i-sizes

pub loop-t-preserved : goal.loop-t-preserved
loop-t-preserved c =
    let t = c.loop-t.t in
    let same : c.args.steps + (t + 1) ≡ c.args.steps + t + 1 = omega arith in
    let turn = (goal.at.loop-t-preserved c).In-loop-t in
    elim c.if-i-sizes.branch [
      | then-i-sizes w ↦
          let lim = placed-limited _ _ w.touch_of-x.ensures.within w.bucket_of-k.ensures.within in
          rw (w.buckets-is, w.last-is)
          (record {
            within = omega (arith, c.loop-t-test.true);
            roomy = roomy-touch _ (2 ^ 60 + t * 2 ^ 48) (2 ^ 60 + (t + 1) * 2 ^ 48) (omega arith) c.loop-t.invariant.roomy _ lim _
                w.add_touch.ensures;
            passed = λ list of warm before at run is.
                rw same
                (pass_step list _ _ _ _ (c.loop-t.invariant.passed list of warm before at run is) run (in-run turn before at) _
                (here turn warm before at) w.if-i-sizes.true _ lim
                (placed-is _ _ list _ _ _ _ w.touch_of-x.ensures.exact (w.bucket_of-k.ensures.exact list of))
                _ w.add_touch.ensures);
          })
      -- a step in which nothing is touched
      | else-i-sizes w ↦
          rw (w.buckets-is, w.last-is)
          (record {
            within = omega (arith, c.loop-t-test.true);
            roomy = roomy-more _ (2 ^ 60 + t * 2 ^ 48) (2 ^ 60 + (t + 1) * 2 ^ 48) (omega arith) c.loop-t.invariant.roomy;
            passed = λ list of warm before at run is.
                rw same (pass-idle list _ _ _ _ (c.loop-t.invariant.passed list of warm before at run is)
                (rw (here turn warm before at) w.if-i-sizes.false));
          })
    ]

pub returns : goal.returns
returns c =
    λ list of warm before at run is.
    let all : c.args.steps + c.loop-t.t ≡ length (before ++ c.args.refs.now) =
    omega (arith, length-append before c.args.refs.now, at, c.loop-t.invariant.within, c.loop-t-test.false) in
    rw all at (c.loop-t.invariant.passed list of warm before at run is)
