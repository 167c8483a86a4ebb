-- `place_of` meets its contract. The loop's invariant: the places passed are not empty and have other pages.
use mathlib.Core.Path.{sym, ap, ◌∙◌}
use native.Mathlib.Omega.{arith}
use lib.ListN.{get_or-map, length-map}
use Rattle.std.specs.Prelude.{None}
use Rattle.din.specs.inner.Held.{page_at, mark_of}
use Rattle.din.proofs.Probing.{home_below, passed_next, passed_all}
use Rattle.din.proofs.pages.place_of.Goals as goal

pub overflow_add-place : goal.overflow_add-place
overflow_add-place c = omega (arith, c.home-start.ensures, home_below c.args.page)

pub loop-j-preserved : goal.loop-j-preserved
loop-j-preserved c =
    let table = c.args.table.now in
    passed_next _ _ _ _ _ c.loop-j.invariant c.loop-j-test.true
    (λ e. absurd (omega (arith, sym e ∙ get_or-map mark_of table _ None ∙ ap mark_of c.in-Some.is)))
    (λ e. c.if-seen-page.true (sym (get_or-map page_at table _ None ∙ ap page_at c.in-Some.is) ∙ e))

pub unreachable-requires : goal.unreachable-requires
unreachable-requires c =
    passed_all _ _ _ _ _ c.loop-j.invariant c.home-start.ensures c.loop-j-test.false (length-map c.args.table.now mark_of ∙ c.requires.0)
    c.requires.1
