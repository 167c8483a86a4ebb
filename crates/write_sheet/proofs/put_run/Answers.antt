-- `write_sheet::put_run` meets its contract, by the form.
use mathlib.Core.Path.{sym, ap}
use native.Mathlib.Omega.{arith}
use borrow.Author.Tests.{le-leb, lt-leb}
use lib.ListN.{length}
use Rattle.text.proofs.Putting.{put_same}
use Rattle.write_sheet.proofs.SheetParts.{run-later, run-first}
use Rattle.write_sheet.proofs.put_run.Goals as goal

pub put_steps-requires : goal.put_steps-requires
put_steps-requires c =
    let e = run-later c.args.form c.args.entries.now c.args.marks.now (le-leb 2 c.args.form c.if-form-ge2.true) in
    (c.requires.0, omega (arith, ap length e, c.requires))

pub returns-then-form-ge2 : goal.returns-then-form-ge2
returns-then-form-ge2 c =
    let a = c.args in
    let e = run-later a.form a.entries.now a.marks.now (le-leb 2 a.form c.if-form-ge2.true) in
    put_same (sym e) c.put_steps.ensures

pub put_counted-requires : goal.put_counted-requires
put_counted-requires c =
    let e = run-first c.args.form c.args.entries.now c.args.marks.now (lt-leb 2 c.args.form c.if-form-ge2.false) in
    omega (arith, ap length e, c.requires)

pub returns : goal.returns
returns c =
    let a = c.args in
    let e = run-first a.form a.entries.now a.marks.now (lt-leb 2 a.form c.if-form-ge2.false) in
    put_same (sym e) c.put_counted.ensures
