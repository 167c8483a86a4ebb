-- `recorder::taking::pass_on` meets its contract: the rows and sizes lent are those of the sheet.
use Rattle.recorder.proofs.Stepping.{passed_on}
use Rattle.recorder.proofs.taking.pass_on.Goals as goal

pub returns : goal.returns
returns c = passed_on _ _ _ _ _ _ _ _ c.min-rows.ensures c.min-segs.ensures c.of-prices.ensures c.references.ensures
