-- `joint_touches` meets its contract: the entries of the steps passed so far stand at the front.
use mathlib.Core.Path.{refl}
use native.Mathlib.Omega.{arith}
use Rattle.model.specs.Sheets.{most_steps}
use Rattle.model.specs.Values.{idles}
use Rattle.model.proofs.Values.{idles-length}
use Rattle.join.specs.inner.Entries.{entries_of}
use Rattle.join.proofs.Filling.{filling-none, filling-next, filling-all}
use Rattle.join.proofs.Entries.{entries-length, entries_at}
use Rattle.join.proofs.joint_entries.joint_touches.Goals as goal

pub loop-t-init : goal.loop-t-init
unfolding idles
loop-t-init c =
    let a = c.args in
    filling-none (entries_of a.n a.xs.now a.ys.now a.steps) (idles most_steps) _ refl

pub loop-t-preserved : goal.loop-t-preserved
loop-t-preserved c =
    let a = c.args in
    let t = c.loop-t.t in
    let all = entries-length a.n a.xs.now a.ys.now a.steps in
    filling-next (entries_of a.n a.xs.now a.ys.now a.steps) (idles most_steps) _ t 0 _ c.loop-t.invariant
    (omega (arith, all)) (omega (arith, all, idles-length most_steps))
    (entries_at a.n a.xs.now a.ys.now a.steps t (omega arith) _ _ _ c.entry_at.ensures c.entry_at-in-loop-t.ensures c.joint_entry.ensures)

pub returns : goal.returns
returns c =
    let a = c.args in
    filling-all (entries_of a.n a.xs.now a.ys.now a.steps) (idles most_steps) _ c.loop-t.t c.loop-t.invariant
    (omega (arith, entries-length a.n a.xs.now a.ys.now a.steps))
