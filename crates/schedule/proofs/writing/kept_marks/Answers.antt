-- `kept_marks` meets its contract: the invariant of its loop is `Marked`.
use mathlib.Core.Path.{refl, ◌∙◌}
use lib.ListN.{get_or}
use Rattle.model.proofs.LastTouches.{start_table-is}
use Rattle.schedule.specs.inner.Runs.{trace}
use Rattle.schedule.proofs.Marks.{marked_start, marked_step, marked_idle}
use Rattle.schedule.proofs.writing.kept_marks.Goals.{then-i-run, else-i-run}
use Rattle.schedule.proofs.writing.kept_marks.Goals as goal

pub loop-t-init : goal.loop-t-init
loop-t-init c =
    let run = trace c.args.run.now in
    marked_start run c.args.row c.requires.segs_within c.requires.steps_within c.start_table-last.result
    (c.start_table-last.ensures ∙ start_table-is run c.args.run.now.warm.now (λ i. refl))

pub loop-t-preserved : goal.loop-t-preserved
loop-t-preserved c =
    let run = trace c.args.run.now in
    let l = c.loop-t in
    let i = get_or c.args.run.now.refs.now l.t 0 in
    elim c.if-i-run.branch [
      | then-i-run w ↦ rw (w.marks-is, w.last-is)
          (marked_step run c.args.row c.requires.segs_within c.requires.steps_within l.marks l.last l.t i w.touch_kept.result l.invariant
          c.loop-t-test.true refl w.if-i-run.true w.touch_kept.ensures)
      | else-i-run w ↦ rw (w.marks-is, w.last-is)
          (marked_idle run c.args.row c.requires.segs_within c.requires.steps_within l.marks l.last l.t l.invariant
          c.loop-t-test.true w.if-i-run.false)
    ]
