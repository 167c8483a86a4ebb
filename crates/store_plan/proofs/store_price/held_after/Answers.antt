-- `held_after` meets its contract: segment i is bit i % 8 of byte i / 8 of the last step.
use mathlib.Core.Path.{◌≡◌, ◌∙◌}
use native.Mathlib.Omega.{arith}
use Rattle.store_plan.specs.inner.Passing.{held_after}
use Rattle.store_plan.proofs.Passing.{held-last}
use Rattle.store_plan.proofs.store_price.held_after.Goals as goal

pub returns-then-steps-gt0 : goal.returns-then-steps-gt0
returns-then-steps-gt0 c =
    let a = c.args in
    c.holds.ensures ∙ held-last a.schedule.now a.steps a.i (λ e. omega (arith, c.if-steps-gt0.true))

pub returns-else-steps-gt0 : goal.returns-else-steps-gt0
unfolding held_after
returns-else-steps-gt0 c =
    let none : c.args.steps ≡ 0 = omega arith in
    rw none
