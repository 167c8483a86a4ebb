-- `write_sheet::put_form` meets its contract: nothing is put before form 2.
use mathlib.Core.Path.{sym, ap}
use native.Mathlib.Omega.{arith}
use borrow.Author.Tests.{le-leb, lt-leb}
use lib.ListN.{length}
use Rattle.text.proofs.Putting.{put-nothing, put_same}
use Rattle.write_sheet.proofs.SheetParts.{form-later, form-first}
use Rattle.write_sheet.proofs.put_form.Goals as goal

pub put_number-requires : goal.put_number-requires
put_number-requires c =
    omega (arith, ap length (form-later c.args.form (le-leb 2 c.args.form c.if-form-ge2.true)), c.requires)

pub returns-then-form-ge2 : goal.returns-then-form-ge2
returns-then-form-ge2 c =
    let form = c.args.form in
    put_same (sym (form-later form (le-leb 2 form c.if-form-ge2.true))) c.put_number.ensures

pub returns : goal.returns
returns c =
    let form = c.args.form in
    put_same (sym (form-first form (lt-leb 2 form c.if-form-ge2.false))) (put-nothing _ _ (omega arith))
