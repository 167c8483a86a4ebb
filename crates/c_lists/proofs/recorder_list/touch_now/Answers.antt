-- `c_lists::recorder_list::touch_now` meets its contract.
use Rattle.buckets.proofs.Touches.{placed-limited, touch-priceable}
use Rattle.c_lists.proofs.InPlace.{touch-told}
use Rattle.c_lists.proofs.recorder_list.touch_now.Goals as goal

pub bucket_of-requires : goal.bucket_of-requires
bucket_of-requires c = touch-priceable _ c.touch_of-x.ensures.within

pub returns : goal.returns
returns c =
    record {
      within = placed-limited _ _ c.touch_of-x.ensures.within c.bucket_of.ensures.within;
      exact = λ rows of.
          touch-told c.args.list.now c.args.segment _ _ _ _ c.args.steps _ _
          c.kind_of-kind.ensures c.min-a.ensures c.short-z.ensures c.short-mark.ensures
          c.touch_of-x.ensures.exact rows (c.bucket_of.ensures.exact rows of);
    }
