-- `recorder::reading::row_now` meets its contract.
use mathlib.Core.Path.{refl}
use Rattle.recorder.proofs.RowNow.{swept-stands}
use Rattle.recorder.proofs.reading.row_now.Goals as goal

pub returns : goal.returns
returns c =
    swept-stands c.args.recorder c.args.row _ c.requires
    (record {
      ended = c.ends_now-ended.result;
      touches = c.sum_first-touches.result;
      start = c.start_now.result;
      sums = record {
        cost = c.args.recorder.cost;
        volume = c.args.recorder.volume;
        all = c.with_start.result;
        kept = c.sum_first.result;
        ends = c.sum_first-2.result;
      };
      ended_are = c.ends_now-ended.ensures;
      touches_are = c.sum_first-touches.ensures;
      start_is = c.start_now.ensures;
      cost_is = refl;
      volume_is = refl;
      all_is = c.with_start.ensures;
      kept_is = c.sum_first.ensures;
      ends_is = c.sum_first-2.ensures;
      figures_are = c.row_of.ensures;
    })
