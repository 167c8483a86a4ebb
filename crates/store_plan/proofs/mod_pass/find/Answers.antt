-- `find` meets its contract: the invariant of its loop is `Finding`.
use mathlib.Core.Path.{refl, ◌∙◌}
use native.Mathlib.Omega.{arith}
use lib.ListN.{get_or}
use Rattle.model.proofs.LastTouches.{start_table-is}
use Rattle.schedule.specs.inner.Runs.{trace}
use Rattle.store_plan.proofs.Finding.{finding_start, finding_touch, finding_idle, finding_small, finding_end}
use Rattle.store_plan.proofs.Tables.{tables_small}
use Rattle.store_plan.proofs.mod_pass.find.Goals.{then-i-run, else-i-run}
use Rattle.store_plan.proofs.mod_pass.find.Goals as goal

pub loop-t-init : goal.loop-t-init
loop-t-init c =
    let run = c.args.run.now in
    finding_start c.requires.run refl (c.start_table-last.ensures ∙ start_table-is (trace run) run.warm.now (λ i. refl)) refl

pub touch-x-requires : goal.touch-x-requires
touch-x-requires c =
    let l = c.loop-t in
    tables_small c.requires.run l.invariant.tables c.loop-t-test.true (get_or c.args.run.now.refs.now l.t 0) c.if-i-run.true
    (omega (arith, c.well_formed), omega (arith, c.well_formed))

pub overflow_add-added : goal.overflow_add-added
overflow_add-added c =
    let small =
    finding_small c.requires.run c.loop-t.invariant c.loop-t-test.true refl c.if-i-run.true
    (omega (arith, c.well_formed), omega (arith, c.well_formed)) c.touch-x.ensures in
    omega (arith, small)

pub loop-t-preserved : goal.loop-t-preserved
loop-t-preserved c =
    let l = c.loop-t in
    elim c.if-i-run.branch [
      | then-i-run w ↦ rw (w.decisions-is, w.last-is, w.since-is, w.added-is)
          (finding_touch c.requires.run l.invariant c.loop-t-test.true refl w.if-i-run.true w.touch-x.ensures)
      | else-i-run w ↦ rw (w.decisions-is, w.last-is, w.since-is, w.added-is)
          (finding_idle c.requires.run l.invariant c.loop-t-test.true w.if-i-run.false)
    ]

pub returns : goal.returns
returns c = finding_end c.requires.run c.loop-t.invariant c.loop-t-test.false
