-- `recorder::guards::sum_first` meets its contract.
use mathlib.Core.Path.{◌≡◌, sym}
use native.Mathlib.Numerals.{add-one}
use native.Mathlib.Omega.{arith}
use Prim.Native.Nat.{◌<◌}
use borrow.Author.Rules.{rules}
use lib.ListN.{length}
use Rattle.std.proofs.lemmas.List.{get_or-take, length-take}
use Rattle.buckets.specs.Buckets.{no_bucket}
use Rattle.figures.proofs.Sweeps.{summed-none}
use Rattle.recorder.proofs.Guarding.{sum_more}
use Rattle.recorder.proofs.guards.sum_first.Goals as goal

pub loop-b-init : goal.loop-b-init
loop-b-init c = λ h. sym (summed-none _)

pub loop-b-preserved : goal.loop-b-preserved
loop-b-preserved c =
    let i = c.loop-b.b-index in
    let lt : i < c.args.n = omega (arith, length-take c.args.n c.args.buckets) in
    rw (add-one i)
    (λ h. sum_more _ _ (h _ lt) (c.loop-b.invariant h) (rw (get_or-take c.args.n c.args.buckets i no_bucket lt) at c.join-all.ensures))

pub returns : goal.returns
returns c =
    let whole : length c.args.buckets ≡ 65 = search rules in
    let all : c.loop-b.b-index ≡ c.args.n = omega (arith, length-take c.args.n c.args.buckets) in
    λ h. rw (← all) (c.loop-b.invariant h)
