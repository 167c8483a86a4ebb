-- `recorder::reading::ends_now` meets its contract: the rows and sizes lent are those of the sheet.
use Rattle.recorder.proofs.RowNow.{ends-stand}
use Rattle.recorder.proofs.reading.ends_now.Goals as goal

pub returns : goal.returns
returns c =
    ends-stand _ _ _ _ _ _ c.min-rows.ensures c.min-segs.ensures c.min-steps.ensures c.of-prices.ensures c.ends.ensures
