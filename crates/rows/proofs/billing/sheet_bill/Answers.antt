-- `billing::sheet_bill` meets its contract: the row is tested, then the tariff, then the row's figures are billed.
use mathlib.Core.Path.{sym, ◌∙◌}
use native.Mathlib.Omega.{arith}
use borrow.Author.Tests.{not-true, not-false}
use Rattle.model.specs.Values.{value_of}
use Rattle.rows.proofs.BillResults.{bill-no-row, bill-out-of-range, bill-at, bill-within}
use Rattle.model.proofs.Standing.{rows-counted}
use Rattle.rows.proofs.billing.sheet_bill.Goals as goal

pub returns-then-row-s : goal.returns-then-row-s
returns-then-row-s c =
    let n = rows-counted c.args.s c.requires in
    sym (bill-no-row (value_of c.args.s) c.args.row c.args.tariff (omega (arith, n, c.if-row-s.true)))

pub returns-then-not-in_range : goal.returns-then-not-in_range
returns-then-not-in_range c =
    let n = rows-counted c.args.s c.requires in
    sym
    (bill-out-of-range (value_of c.args.s) c.args.row c.args.tariff (omega (arith, n, c.if-row-s.false))
    (sym c.in_range.ensures ∙ not-true _ c.if-not-in_range.true-raw))

pub bill-requires : goal.bill-requires
bill-requires c =
    let f = c.row_alone-f in
    let within = bill-within (value_of c.args.s) c.args.row c.args.tariff f.result f.ensures c.requires.valid in
    (within.0, within.1, sym c.in_range.ensures ∙ not-false _ c.if-not-in_range.false-raw)

pub returns : goal.returns
returns c =
    let f = c.row_alone-f in
    let n = rows-counted c.args.s c.requires in
    bill-at (value_of c.args.s) c.args.row c.args.tariff f.result f.ensures (omega (arith, n, c.if-row-s.false))
    (sym c.in_range.ensures ∙ not-false _ c.if-not-in_range.false-raw)
    c.bill.ensures
