-- `Tariff::bill` meets its contract: each part is charged by its started thousands, and the sum is raised to the minimum.
use Rattle.tariff.proofs.Charges.{bill-is}
use Rattle.tariff.proofs.Tariff.bill.Goals as goal

pub returns : goal.returns
returns c =
    let m = c.started_thousands in
    let l = c.started_thousands-2 in
    bill-is c.args.self _ _ m.result l.result m.ensures l.ensures c.max.result c.max.ensures
