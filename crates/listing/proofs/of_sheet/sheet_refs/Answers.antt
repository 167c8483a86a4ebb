-- `listing::of_sheet::sheet_refs` meets its contract.
use mathlib.Core.Path.{◌≡◌, ap, ◌∙◌}
use native.Mathlib.Omega.{arith}
use borrow.Author.Rules.{rules}
use lib.ListN.{length}
use Rattle.std.proofs.lemmas.List.{get_or-take, length-take}
use Rattle.listing.proofs.Counting.{touches_by, counted_none, counted_next, counted-all}
use Rattle.listing.proofs.of_sheet.sheet_refs.Goals as goal

pub loop-x-init : goal.loop-x-init
loop-x-init c = counted_none _ _

pub loop-x-preserved : goal.loop-x-preserved
loop-x-preserved c =
    let s = c.args.s in
    let entry = get_or-take s.steps s.touches c.loop-x.x-index 0 (omega (arith, length-take s.steps s.touches)) in
    counted_next _ _ _ _ _ c.loop-x.invariant (rw entry at c.from-refs.ensures)

pub returns : goal.returns
returns c =
    let s = c.args.s in
    let n : length s.touches ≡ 2048 = search rules in
    let e : c.loop-x.x-index ≡ s.steps = omega (arith, length-take s.steps s.touches) in
    c.from.ensures ∙ c.loop-x.invariant.is ∙ ap (touches_by s.head.segs s.touches) e ∙ counted-all s c.requires
