-- `figures::rows::add_up` meets its contract. The loop's invariant: the sum is that of the buckets passed.
use Prim.Native.Nat.{suc}
use mathlib.Core.Path.{◌≡◌, ◌∙◌, sym}
use native.Mathlib.Numerals.{add-one}
use native.Mathlib.Omega.{arith}
use Rattle.figures.proofs.Sweeps.{holds-within, summed-none, summed-suc, summed-more}
use Rattle.figures.proofs.rows.add_up.Goals as goal

pub loop-b-init : goal.loop-b-init
loop-b-init c = sym (summed-none c.args.buckets.now)

pub plus-all-requires : goal.plus-all-requires
plus-all-requires c =
    let k = c.loop-b.b-index in
    holds-within _ (rw (c.loop-b.invariant, ← summed-suc c.args.buckets.now k) (c.requires (suc k) (omega arith)))

pub loop-b-preserved : goal.loop-b-preserved
loop-b-preserved c =
    let k = c.loop-b.b-index in
    rw (add-one k) (summed-more c.args.buckets.now k c.loop-b.invariant c.plus-all.ensures)

pub returns : goal.returns
returns c = let whole : c.loop-b.b-index ≡ 65 = omega arith in c.loop-b.invariant ∙ rw whole
