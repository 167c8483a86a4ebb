-- `row_records` meets its contract: the records are copied to the list's front.
use mathlib.Core.Path.{sym, ◌∙◌}
use lib.ListN.{length}
use lib.Seq.{length-take-le}
use Rattle.std.proofs.lemmas.Result.{err_from_is_err_and}
use Rattle.row_records.proofs.Found.{RecordsOf, found-ok, found-none, counted, answered, written, refused}
use Rattle.row_records.proofs.row_records.Goals.{In_ok-count}
use Rattle.row_records.proofs.row_records.Goals as goal

-- the records are those of the sheet
records : (c : In_ok-count) → RecordsOf c.args.bytes.now (length c.args.out.now) c.in_ok-count.field-0
records c = found-ok c.args.bytes.now (length c.args.out.now) (sym c.all_records.ensures ∙ c.in_ok-count.was)

pub returns-in_err-count : goal.returns-in_err-count
returns-in_err-count c =
    let p = err_from_is_err_and c.from_residual.result c.from_residual.ensures.1 in
    rw (p.1, p.2) (refused c.args.bytes.now c.args.out.now
    (found-none c.args.bytes.now (length c.args.out.now) (sym c.all_records.ensures ∙ c.in_err-count.was)))

pub slice_bounds-copy_from_slice-end : goal.slice_bounds-copy_from_slice-end
slice_bounds-copy_from_slice-end c = (records (goal.at.slice_bounds-copy_from_slice-end c).In_ok-count).within

pub slice_bounds-copy_from_slice-end-2 : goal.slice_bounds-copy_from_slice-end-2
slice_bounds-copy_from_slice-end-2 c =
    sym (length-take-le _ _ (records (goal.at.slice_bounds-copy_from_slice-end-2 c).In_ok-count).within)

pub slice_bounds-figures-end : goal.slice_bounds-figures-end
slice_bounds-figures-end c = counted (records (goal.at.slice_bounds-figures-end c).In_ok-count)

pub slice_bounds-copy_from_slice-end-3 : goal.slice_bounds-copy_from_slice-end-3
slice_bounds-copy_from_slice-end-3 c =
    sym (length-take-le _ _ (counted (records (goal.at.slice_bounds-copy_from_slice-end-3 c).In_ok-count)))

pub copy_from_slice-requires : goal.copy_from_slice-requires
copy_from_slice-requires c =
    let of = records (goal.at.copy_from_slice-requires c).In_ok-count in
    length-take-le _ _ of.within ∙ sym (length-take-le _ _ (counted of))

pub returns : goal.returns
returns c =
    let of = records (goal.at.returns c).In_ok-count in
    (answered _ _ of, rw c.copy_from_slice.ensures.after (written _ _ of))
