-- `recorder::taking::take_one` meets its contract: it makes one step of the pass.
use mathlib.Core.Path.{refl}
use Rattle.buckets.proofs.Touches.{placed, placed-limited, placed-is}
use Rattle.recorder.proofs.Stepping.{stepped-stands}
use Rattle.recorder.proofs.taking.take_one.Goals as goal

pub returns : goal.returns
returns c =
    stepped-stands c.args.recorder _ c.args.segment c.requires.0 c.requires.1
    (record {
      count = c.min-rows.result;
      touch = placed c.touch_of-x.result c.bucket.result;
      bucket = c.file.result;
      unit = c.unit_cost.result.0;
      cost = c.more.result;
      volume = c.more-2.result;
      count_is = c.min-rows.ensures;
      limited = placed-limited _ _ c.touch_of-x.ensures.within c.bucket.ensures.within;
      touch_is = λ up. placed-is _ _ _ _ _ _ _ c.touch_of-x.ensures.exact (c.bucket.ensures.exact up);
      bucket_is = c.file.ensures;
      unit_is = c.unit_cost.ensures;
      cost_is = c.more.ensures;
      volume_is = rw c.from.ensures at c.more-2.ensures;
      next_is = refl;
    })
