-- `listing::Listing::put_rows` meets its contract. The loop's invariant: the lines of the rows passed are put from `at` on.
use native.Mathlib.Omega.{arith}
use lib.ListN.{length}
use lib.Seq.{take-length}
use Rattle.std.proofs.lemmas.List.{length_push}
use Rattle.std.proofs.lemmas.Slice.Zip.{zip_turn}
use Rattle.model.specs.Rows.{zero_figures}
use Rattle.text.proofs.Putting.{filled_start, filled_next}
use Rattle.listing.specs.RowListing.{rows_listing}
use Rattle.listing.proofs.RowLines.{rows_next, rows-room}
use Rattle.listing.proofs.Listing.put_rows.Goals as goal

pub loop-f-init : goal.loop-f-init
unfolding rows_listing
loop-f-init c = filled_start _ _ _ (omega arith)

pub put_marked-next-requires : goal.put_marked-next-requires
put_marked-next-requires c =
    let a = c.args.self.now in
    let l = c.loop-f in
    let t = zip_turn a.figures.now a.modtotals.now l.yielded c.into_iter-f-iterator.result l.f-iterator c.next.new.self c.next.result (cc) (cc)
    l.yielded_by _ c.in-Some.is c.next.ensures.steps in
    let n = length a.figures.now in
    let r = rows-room a.form a.figures.now a.modtotals.now (length l.yielded) t.0 n t.0 in
    rw (t.2 zero_figures, t.3 0) (omega (arith, rw take-length at r, c.requires.1, l.invariant.put.ends, l.invariant.same_length))

pub loop-f-preserved : goal.loop-f-preserved
loop-f-preserved c =
    let a = c.args.self.now in
    let l = c.loop-f in
    let t = zip_turn a.figures.now a.modtotals.now l.yielded c.into_iter-f-iterator.result l.f-iterator c.next.new.self c.next.result (cc) (cc)
    l.yielded_by _ c.in-Some.is c.next.ensures.steps in
    rw length_push
    (filled_next l.invariant t.0 c.put_marked-next.ensures
    (rw (t.2 zero_figures, t.3 0) (rows_next a.form a.figures.now a.modtotals.now (length l.yielded) t.0)))
