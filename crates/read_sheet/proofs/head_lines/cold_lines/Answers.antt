-- `read_sheet::head_lines::cold_lines` meets its contract: the sizes, and then the rows.
use mathlib.Core.Path.{◌≡◌, refl, sym, ap, subst, ◌∙◌}
use native.Mathlib.Omega.{arith}
use lib.ListN.{length}
use Rattle.model.specs.Sheets.{most_segs}
use Rattle.sheet.specs.Lines.{split_at}
use Rattle.model.proofs.Values.{zeros-length}
use Rattle.scan.specs.inner.AtPlace.{Filled}
use Rattle.scan.proofs.Blanks.{filled_start}
use Rattle.scan.proofs.LinesRead.{exits}
use Rattle.scan.proofs.Tails.{tail-place}
use Rattle.read_sheet.proofs.HeadParts.{head-refused, sizes-read, sizes-refused, rows-refused, cold-read}
use Rattle.read_sheet.proofs.head_lines.cold_lines.Goals.{Start}
use Rattle.read_sheet.proofs.head_lines.cold_lines.Goals as goal

-- there is room for 256 sizes
room : (c : Start) → length c.args.head.now.sizes ≡ most_segs
room c = ap length c.requires.sizes_zero ∙ zeros-length most_segs

pub counted_lines-requires : goal.counted_lines-requires
unfolding split_at
counted_lines-requires c =
    record { count_value = (refl, refl); out_len_bound = (omega (arith, room (goal.at.counted_lines-requires c).Start), omega arith) }

pub returns-in_err-segs-clause-tables : goal.returns-in_err-segs-clause-tables
returns-in_err-segs-clause-tables c =
    let e = exits _ c.in_err-segs.field-0.0 c.from_residual.ensures.1 in
    let sizes = sizes-read _ _ _ (room (goal.at.returns-in_err-segs-clause-tables c).Start) c.in_err-segs.ensures.reads.same in
    rw e (head-refused _ _ _ _ (sizes-refused _ _ _ _ sizes))

pub returns-in_err-rows-clause-tables : goal.returns-in_err-rows-clause-tables
returns-in_err-rows-clause-tables c =
    let e = exits _ c.in_err-rows.field-0.0 c.from_residual-in_err-rows.ensures.1 in
    let sizes = sizes-read _ _ _ (room (goal.at.returns-in_err-rows-clause-tables c).Start) c.in_ok-segs.ensures.reads.same in
    rw e (head-refused _ _ _ _ (rows-refused _ _ _ _ _ sizes _ (sym c.in_err-rows.ensures.reads.same)))

pub returns-clause-tables : goal.returns-clause-tables
returns-clause-tables c =
    let p = c.requires in
    let x = c.in_ok-segs.ensures in
    let y = c.in_ok-rows.ensures in
    let sizes = sizes-read _ _ _ (room (goal.at.returns-clause-tables c).Start) x.reads.same in
    record {
      reads =
          record {
            same = cold-read _ _ _ _ p.none_warm sizes (sym y.reads.same);
            within = tail-place _ _ _ x.reads.within y.reads.within;
          };
      filled =
          record {
            sizes = subst (Filled _ _) p.sizes_zero x.filled;
            prices = subst (Filled _ _) p.rows_zero y.filled;
            holds = filled_start _ _ _ (omega arith) p.holds_zero;
          };
    }
