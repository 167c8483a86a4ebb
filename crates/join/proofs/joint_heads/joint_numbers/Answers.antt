-- `joint_numbers` meets its contract: the first numbers, and those of the others that were moved so far, stand at the front.
use Prim.Native.Nat.{◌+◌, ◌-◌}
use mathlib.Core.Path.{◌≡◌, sym, ap, ◌∙◌}
use native.Mathlib.Omega.{arith}
use lib.ListN.{length, get_or, take}
use Rattle.model.specs.Sheets.{most_segs}
use Rattle.model.specs.Values.{zeros, padded}
use Rattle.model.proofs.Values.{zeros-length}
use Rattle.joint.specs.inner.Moved.{moved, moved_after}
use Rattle.joint.proofs.Lists.{numbers-length, second-number}
use Rattle.std.proofs.lemmas.List.{take_at}
use Rattle.join.proofs.Filling.{filling-next}
use Rattle.join.proofs.joint_heads.joint_numbers.Goals as goal

pub loop-k-init : goal.loop-k-init
unfolding zeros padded
loop-k-init c =
    let xs = c.args.xs.now in
    let first : take (length xs + 0) (moved_after xs c.args.n c.args.ys.now) ≡ xs = take_at xs (moved c.args.n c.args.ys.now) _ (omega arith) in
    rw (first, c.copy_from_slice.ensures.after)

pub loop-k-preserved : goal.loop-k-preserved
loop-k-preserved c =
    let xs = c.args.xs.now in
    let ys = c.args.ys.now in
    let k = c.loop-k.k in
    let all = numbers-length xs c.args.n ys in
    let at : k ≡ length xs + k - length xs = omega arith in
    let next : length xs + (k + 1) ≡ length xs + k + 1 = omega arith in
    rw next
    (filling-next (moved_after xs c.args.n ys) (zeros most_segs) _ (length xs + k) 0 _ c.loop-k.invariant
    (omega (arith, all)) (omega (arith, all, zeros-length most_segs, c.requires.few))
    (ap (λ j. c.args.n + get_or ys j 0) at ∙ sym (second-number xs c.args.n ys (length xs + k) (omega arith) (omega arith))))
