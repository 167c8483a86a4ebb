-- `figuring::bill` meets its contract: what the sheet reads as decides.
use Rattle.analyser.proofs.Asked.{asked-refused, asked-accepted}
use Rattle.analyser.specs.Figures.{bill_answer}
use Rattle.sheet.proofs.Accepting.{stands}
use Rattle.tariff.specs.Billing.{bill_for, tariff_of}
use Rattle.analyser.proofs.figuring.bill.Goals as goal

pub sheet_bill-requires : goal.sheet_bill-requires
sheet_bill-requires c = stands _ _ c.in_ok-sheet.ensures

pub returns-in_err-sheet : goal.returns-in_err-sheet
unfolding bill_answer
returns-in_err-sheet c = asked-refused _ (λ v. bill_for v c.args.row (tariff_of c.args.memory_rate c.args.load_rate c.args.minimum)) _ _ c.from_residual.ensures.1 c.in_err-sheet.ensures

pub returns : goal.returns
unfolding bill_answer
returns c = asked-accepted _ (λ v. bill_for v c.args.row (tariff_of c.args.memory_rate c.args.load_rate c.args.minimum)) _ _ c.sheet_bill.ensures c.in_ok-sheet.ensures
