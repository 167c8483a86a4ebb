-- `lru_curve::frames::ones_verdict` meets its contract: the sizes are tested, then the warm segments.
use mathlib.Core.Path.{sym, ◌∙◌}
use borrow.Author.Tests.{not-true, not-false}
use Rattle.lru_curve.proofs.Ones.{verdict-size, verdict-warm, verdict-ones}
use Rattle.lru_curve.proofs.frames.ones_verdict.Goals as goal

pub returns-then-not-ones : goal.returns-then-not-ones
returns-then-not-ones c = sym (verdict-size _ _ (sym c.all_ones-ones.ensures ∙ not-true _ c.if-not-ones.true-raw))

pub returns-then-not-cold : goal.returns-then-not-cold
returns-then-not-cold c =
    sym (verdict-warm _ _ (sym c.all_ones-ones.ensures ∙ not-false _ c.if-not-ones.false-raw) (not-true _ c.if-not-cold.true-raw))

pub returns : goal.returns
returns c =
    sym (verdict-ones _ _ (sym c.all_ones-ones.ensures ∙ not-false _ c.if-not-ones.false-raw) (not-false _ c.if-not-cold.false-raw))
