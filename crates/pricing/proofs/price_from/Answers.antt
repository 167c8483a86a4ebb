-- `price_from` meets its contract. The loop's invariant: the first t steps are accepted, and c has their costs.
use mathlib.Core.Path.{refl, sym, ◌∙◌}
use native.Mathlib.Omega.{arith}
use borrow.Author.Tests.{ne_eqb}
use Rattle.std.proofs.lemmas.Result.{err_from_is_err_and}
use Rattle.pricing.proofs.StepCosts.{through-within}
use Rattle.pricing.proofs.Costing.{through-none, through-all}
use Rattle.pricing.proofs.Verdicts.{first-fault, whole-verdict, other_length, refused-answer}
use Rattle.pricing.proofs.price_from.Goals as goal

pub returns-then-handed : goal.returns-then-handed
returns-then-handed c = sym (refused-answer _ _ _ _ _ (other_length _ _ (ne_eqb _ _ c.if-handed.true)))

pub loop-t-init : goal.loop-t-init
loop-t-init c =
    through-none _ _ c.args.handed.now.run.warm.now _ (λ i. refl) c.start_cost.ensures

pub returns-in_err-c : goal.returns-in_err-c
returns-in_err-c c =
    let p = err_from_is_err_and c.from_residual.result c.from_residual.ensures.1 in
    rw (p.1, p.2)
    (sym (refused-answer _ _ _ _ _
    (whole-verdict _ _ c.if-handed.false ∙ first-fault _ _ _ _ _ c.loop-t-test.true c.loop-t.invariant.accepted c.in_err-c.ensures)))

pub total-requires : goal.total-requires
total-requires c =
    let run = c.requires.run_within in
    let within = through-within _ run _ _ _ (omega (arith, run.steps_within)) c.loop-t.invariant in
    (omega (arith, within.1), omega (arith, within.2))

pub returns : goal.returns
returns c =
    through-all _ _ _ _ _ _ _ c.if-handed.false c.loop-t.invariant (omega arith) c.total.ensures
