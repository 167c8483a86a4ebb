-- `write_sheet::touch_text::count_touches` meets its contract.
use mathlib.Core.Path.{refl, ◌∙◌}
use native.Mathlib.Omega.{arith}
use borrow.Author.Rules.{rules}
use Rattle.model.specs.Sheets.{marks_of}
use Rattle.sheet.specs.Touches.{touches_from}
use Rattle.write_sheet.proofs.TouchLines.{entry-count, count_next}
use Rattle.write_sheet.proofs.touch_text.count_touches.Goals as goal

pub loop-x-init : goal.loop-x-init
unfolding touches_from
loop-x-init c = record { few = omega arith; count_is = λ marks. refl }

pub loop-x-preserved : goal.loop-x-preserved
loop-x-preserved c =
    let l = c.loop-x in
    let e = rw c.is_idle.ensures at c.from-count.ensures in
    record {
      few = search rules;
      count_is = λ m. count_next m _ l.x-index c.loop-x-test.true _ _ (l.invariant.count_is m) (e ∙ entry-count (marks_of m) l.x-index _);
    }
