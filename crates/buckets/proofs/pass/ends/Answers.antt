-- `pass::ends` meets its contract.
use borrow.Author.Rules.{rules}
use lib.ListN.{length, get_or, length-append}
use mathlib.Core.Path.{◌≡◌, ◌∙◌}
use native.Mathlib.Omega.{arith}
use Prim.Native.Nat.{ℕ, ◌+◌, ◌*◌, ◌^◌, ◌<◌}
use Rattle.buckets.specs.Buckets.{tally_of}
use Rattle.buckets.specs.inner.Pass.{Limited}
use Rattle.buckets.proofs.Filling.{roomy-start, roomy-end}
use Rattle.buckets.proofs.Ending.{ending-start, ending-step}
use Rattle.buckets.proofs.Touches.{placed, placed-limited, placed-is, touch-priceable}
use Rattle.buckets.proofs.pass.ends.Goals.{After-bucket_of-k, After-touch_of-x}
use Rattle.std.proofs.lemmas.Slice.Zip.{zip_turn, zip_end}
use Rattle.buckets.proofs.pass.ends.Goals as goal

-- the end interval with its bucket
touch-limited : (c : After-bucket_of-k) → Limited (placed c.touch_of-x.result c.bucket_of-k.result)
touch-limited c = placed-limited _ _ c.touch_of-x.ensures.within c.bucket_of-k.ensures.within

pub loop-z-init : goal.loop-z-init
loop-z-init c =
    rw c.empty_buckets-buckets.ensures
    (record { within = omega arith; roomy = roomy-start; ended = λ list of warm refs all run table. ending-start list _ })

pub bucket_of-k-requires : goal.bucket_of-k-requires
bucket_of-k-requires c =
    touch-priceable _ c.touch_of-x.ensures.within

-- the pair of the turn: the size and the mark of the segment after those passed
pair : (c : After-touch_of-x) → (length c.loop-z.yielded < length c.args.sizes.now) × (length c.loop-z.yielded < length c.args.last.now)
    × ((d : ℕ) → c.in-Some.field-0-0.now ≡ get_or c.args.sizes.now (length c.loop-z.yielded) d)
    × ((d : ℕ) → c.in-Some.field-0-1.now ≡ get_or c.args.last.now (length c.loop-z.yielded) d)
pair c =
    zip_turn c.args.sizes.now c.args.last.now c.loop-z.yielded _ _ c.next.new.self _ (search rules) (search rules)
    c.loop-z.yielded_by _ c.in-Some.is c.next.ensures.steps

pub add_end-requires : goal.add_end-requires
add_end-requires c =
    let each = c.loop-z.invariant.roomy.each _ c.bucket_of-k.ensures.within in
    record {
      within = omega (arith, each, (pair (goal.at.add_end-requires c).After-touch_of-x).0, c.requires.0);
      limited = touch-limited (goal.at.add_end-requires c).After-bucket_of-k;
    }

pub loop-z-preserved : goal.loop-z-preserved
loop-z-preserved c =
    let i = length c.loop-z.yielded in
    let turn = pair (goal.at.loop-z-preserved c).After-touch_of-x in
    let lim = touch-limited (goal.at.loop-z-preserved c).After-bucket_of-k in
    let is = rw (turn.2 0, turn.3 0) at c.touch_of-x.ensures.exact in
    rw length-append
    (record {
      within = omega (arith, turn.0);
      roomy = roomy-end _ (i * 2 ^ 48) ((i + 1) * 2 ^ 48) (omega arith) c.loop-z.invariant.roomy _ lim _ c.add_end.ensures;
      ended = λ list of warm refs all run table.
          ending-step list _ run c.args.steps all _ table _ turn.0 _ (c.loop-z.invariant.ended list of warm refs all run table) _ lim
          (placed-is _ _ list _ _ _ _ is (c.bucket_of-k.ensures.exact list of))
          _ c.add_end.ensures;
    })

pub returns : goal.returns
unfolding tally_of
returns c = λ list of warm refs all run table.
    let every = zip_end c.args.sizes.now c.args.last.now c.loop-z.yielded _ _ c.next.new.self _ (search rules) (search rules)
    c.loop-z.yielded_by c.in-None.is c.next.ensures.steps in
    let same : length c.loop-z.yielded ≡ length c.args.sizes.now = omega (arith, every, c.requires.1) in
    c.loop-z.invariant.ended list of warm refs all run table ∙ rw same
