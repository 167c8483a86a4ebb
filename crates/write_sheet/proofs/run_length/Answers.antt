-- `write_sheet::run_length` meets its contract, by the form.
use mathlib.Core.Path.{ap}
use native.Mathlib.Omega.{arith}
use borrow.Author.Tests.{le-leb, lt-leb}
use lib.ListN.{length}
use Rattle.text.proofs.Lengths.{length-of}
use Rattle.write_sheet.proofs.SheetParts.{run-later, run-first}
use Rattle.write_sheet.proofs.run_length.Goals as goal

pub returns-then-form-ge2 : goal.returns-then-form-ge2
returns-then-form-ge2 c =
    let a = c.args in
    let e = run-later a.form a.entries.now a.marks.now (le-leb 2 a.form c.if-form-ge2.true) in
    length-of (omega (arith, ap length e))

pub returns : goal.returns
returns c =
    let a = c.args in
    let e = run-first a.form a.entries.now a.marks.now (lt-leb 2 a.form c.if-form-ge2.false) in
    length-of (omega (arith, ap length e))
