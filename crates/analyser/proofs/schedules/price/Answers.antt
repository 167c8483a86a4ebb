-- `schedules::price` meets its contract: what the sheet reads as decides.
use Rattle.analyser.proofs.Asked.{asked-refused, asked-accepted}
use Rattle.analyser.specs.Schedules.{pricing}
use Rattle.sheet.proofs.Accepting.{stands}
use Rattle.stores.specs.Plans.{price_for}
use Rattle.analyser.proofs.schedules.price.Goals as goal

pub sheet_price-requires : goal.sheet_price-requires
sheet_price-requires c = stands _ _ c.in_ok-sheet.ensures

pub returns-in_err-sheet : goal.returns-in_err-sheet
unfolding pricing
returns-in_err-sheet c = asked-refused _ (λ v. price_for v c.args.row c.args.schedule.now) _ _ c.from_residual.ensures.1 c.in_err-sheet.ensures

pub returns : goal.returns
unfolding pricing
returns c = asked-accepted _ (λ v. price_for v c.args.row c.args.schedule.now) _ _ c.sheet_price.ensures c.in_ok-sheet.ensures
