-- `step` meets its contract.
use native.Mathlib.Omega.{arith}
use mathlib.Core.Path.{sym, ◌∙◌}
use Rattle.std.proofs.lemmas.Result.{err_from_is_err_and}
use Rattle.schedule.specs.inner.Runs.{trace}
use Rattle.pricing.specs.inner.Steps.{Touches}
use Rattle.pricing.proofs.StepCosts.{step-lacks, step-enters, left-within, through-step, through-within}
use Rattle.pricing.proofs.held_bits.Handed.step.Goals.{After-segment_of-touched}
use Rattle.pricing.proofs.held_bits.Handed.step.Goals as goal

-- the segment that the step touches, if any
touches : (c : After-segment_of-touched)
    → Touches (trace c.args.self.now.run) c.args.self.now.start c.args.self.now.schedule.now c.args.t c.segment_of-touched.result
touches c = record { step = c.requires.step; is = c.segment_of-touched.ensures }

pub returns-then-lacks : goal.returns-then-lacks
returns-then-lacks c =
    step-lacks _ _ _ _ _ (touches (goal.at.returns-then-lacks c).After-segment_of-touched) (sym c.lacks.ensures ∙ c.if-lacks.true)

pub returns-in_err-left : goal.returns-in_err-left
returns-in_err-left c =
    let p = err_from_is_err_and c.from_residual.result c.from_residual.ensures.1 in
    let at = touches (goal.at.returns-in_err-left c).After-segment_of-touched in
    rw (p.1, p.2, c.in_err-left.ensures.0)
    (step-enters _ _ _ _ _ at (sym c.lacks.ensures ∙ c.if-lacks.false) c.in_err-left.ensures.1)

pub moved-requires-clause-held_bound : goal.moved-requires-clause-held_bound
moved-requires-clause-held_bound c =
    let at = c.requires.step in
    through-within _ at.limits _ _ _ (omega (arith, at.place, at.limits.steps_within)) c.requires.through

pub moved-requires-clause-left_bound : goal.moved-requires-clause-left_bound
moved-requires-clause-left_bound c =
    left-within _ _ _ _ _ (touches (goal.at.moved-requires-clause-left_bound c).After-segment_of-touched) _ _ c.requires.through
    c.in_ok-left.ensures (sym c.lacks.ensures ∙ c.if-lacks.false) _ c.loaded.ensures

pub returns : goal.returns
returns c =
    through-step _ _ _ _ _ (touches (goal.at.returns c).After-segment_of-touched) _ _ c.requires.through
    c.in_ok-left.ensures (sym c.lacks.ensures ∙ c.if-lacks.false) _ c.loaded.ensures _ c.moved.ensures
