-- `recorder::taking::take_all` meets its contract: the pass goes on from a recorder that passes the test, which every recorder that stands
-- for a sheet does.
use Prim.Native.Nat.{◌+◌, ◌≤◌, min}
use mathlib.Core.Path.{ap, sym, ◌∙◌}
use native.Mathlib.Omega.{arith}
use lib.ListN.{length}
use Rattle.model.specs.Sheets.{most_segs, most_steps}
use Rattle.recorder.proofs.Bulk.{none-appended, takable-is, takable-few, all-run}
use Rattle.recorder.proofs.Standing.{stands-roomy}
use Rattle.recorder.proofs.Stepping.{taken-stands}
use Rattle.std.proofs.lemmas.Bool.{eqb-true, eqb-false, iff_false}
use Rattle.recorder.proofs.taking.take_all.Goals.{then-is_empty-via-then-is_empty, then-is_empty-via-else-is_empty+then-not-roomy}
use Rattle.recorder.proofs.taking.take_all.Goals.{After-roomy}
use Rattle.recorder.proofs.taking.take_all.Goals as goal

-- all references are within the number that a sheet has
few : (c : After-roomy) → c.args.recorder.steps + length c.args.refs.now ≤ most_steps
few c = let can = takable-is (min c.args.recorder.head.segs most_segs) _ _ c.requires in
    let some = eqb-false _ _ (sym c.is_empty.ensures ∙ c.if-is_empty.false) in
    takable-few _ _ _ can (omega (arith, can.room 0 (omega (arith, some))))

pub returns-then-is_empty-clause-all : goal.returns-then-is_empty-clause-all
returns-then-is_empty-clause-all c =
    elim c.then-is_empty.branch [
      | then-is_empty-via-then-is_empty w ↦ λ v valid e. e ∙ none-appended v _ (eqb-true _ _ (sym c.is_empty.ensures ∙ w.if-is_empty.true))
      | then-is_empty-via-else-is_empty+then-not-roomy w ↦
          λ v valid e. absurd (iff_false w.roomy.ensures w.if-not-roomy.true (stands-roomy _ v valid e))
    ]

pub pass_on-requires : goal.pass_on-requires
pass_on-requires c =
    record {
      roomy = c.roomy.ensures.0 c.if-not-roomy.false;
      few_segs = omega arith;
      few_steps = few (goal.at.pass_on-requires c).After-roomy;
    }

pub overflow_add-result : goal.overflow_add-result
overflow_add-result c = omega (arith, few (goal.at.overflow_add-result c).After-roomy)

pub returns : goal.returns
returns c =
    record {
      none = λ none. absurd (omega (arith, ap length none, eqb-false _ _ (sym c.is_empty.ensures ∙ c.if-is_empty.false)));
      all = λ v valid e.
          taken-stands c.args.recorder _ c.pass_on.result _ _ c.pass_on.ensures c.sum_first-all.ensures
          c.by_kind-cost.ensures v valid.rows (all-run _ _ c.requires v valid e) e;
    }
