-- `write_sheet::form_length` meets its contract: a sheet has a form line from form 2 on.
use mathlib.Core.Path.{ap}
use native.Mathlib.Omega.{arith}
use borrow.Author.Tests.{le-leb, lt-leb}
use lib.ListN.{length}
use Rattle.text.proofs.Lengths.{length-of}
use Rattle.write_sheet.proofs.SheetParts.{form-later, form-first}
use Rattle.write_sheet.proofs.form_length.Goals as goal

pub returns-then-form-ge2 : goal.returns-then-form-ge2
returns-then-form-ge2 c =
    let e = form-later c.args.form (le-leb 2 c.args.form c.if-form-ge2.true) in
    length-of (omega (arith, ap length e))

pub returns : goal.returns
returns c =
    let form = c.args.form in
    length-of (omega (arith, ap length (form-first form (lt-leb 2 form c.if-form-ge2.false))))
