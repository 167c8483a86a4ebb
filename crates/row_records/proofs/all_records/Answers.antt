-- `row_records::all_records` meets its contract: what the sheet reads as decides, and then the length of the list.
use mathlib.Core.Path.{refl, sym, ◌∙◌}
use native.Mathlib.Omega.{arith}
use borrow.Author.Tests.{le-leb, lt-leb}
use lib.ListN.{length}
use Rattle.std.specs.Prelude.{Err}
use Rattle.std.proofs.lemmas.Result.{err_from_is_err_and}
use Rattle.model.specs.Values.{value_of}
use Rattle.model.proofs.Standing.{rows-counted}
use Rattle.sheet.proofs.Accepting.{on-refused, on-accepted, stands}
use Rattle.sheet.specs.Reading.{read_sheet}
use Rattle.row_records.specs.Held.{records_for, records_found}
use Rattle.row_records.proofs.all_records.Goals.{Then-room-count, Else-room-count}
use Rattle.row_records.proofs.all_records.Goals as goal

pub returns-in_err-s : goal.returns-in_err-s
unfolding records_found
returns-in_err-s c =
    let p = err_from_is_err_and c.from_residual.result c.from_residual.ensures.1 in
    rw (p.1, p.2)
    (sym (on-refused (read_sheet c.args.bytes.now) _ (sym c.in_err-s.was ∙ c.read_forms.ensures) Err (λ v. records_for v c.args.room)))

pub returns-then-room-count : goal.returns-then-room-count
unfolding records_found records_for
returns-then-room-count c =
    let read = sym c.in_ok-s.was ∙ c.read_forms.ensures in
    let n = rows-counted c.in_ok-s.s (stands c.args.bytes.now _ read) in
    rw (on-accepted (read_sheet c.args.bytes.now) _ read Err (λ v. records_for v c.args.room))
    (rw (lt-leb (length (value_of c.in_ok-s.s).head.rows) c.args.room (omega (arith, n))) refl)

pub all_figures-figures-requires : goal.all_figures-figures-requires
all_figures-figures-requires c = stands c.args.bytes.now _ (sym c.in_ok-s.was ∙ c.read_forms.ensures)

pub returns : goal.returns
unfolding records_found records_for
returns c =
    let read = sym c.in_ok-s.was ∙ c.read_forms.ensures in
    let n = rows-counted c.in_ok-s.s (stands c.args.bytes.now _ read) in
    rw (on-accepted (read_sheet c.args.bytes.now) _ read Err (λ v. records_for v c.args.room))
    (rw (le-leb (length (value_of c.in_ok-s.s).head.rows) c.args.room (omega (arith, n)), n, c.all_figures-figures.ensures) refl)
