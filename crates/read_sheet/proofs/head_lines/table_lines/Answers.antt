-- `read_sheet::head_lines::table_lines` meets its contract: the sizes and the rows, and then the warm segments of a later form.
use mathlib.Core.Path.{sym, subst, ◌∙◌}
use native.Mathlib.Omega.{arith}
use Rattle.model.specs.Sheets.{most_segs}
use Rattle.model.proofs.Values.{zeros-length}
use Rattle.scan.specs.inner.AtPlace.{Filled}
use Rattle.scan.proofs.LinesRead.{exits}
use Rattle.scan.proofs.Tails.{tail-place}
use Rattle.read_sheet.proofs.HeadParts.{head-refused, sizes-counted, table-segs}
use Rattle.read_sheet.proofs.WarmTables.{tables-refused, warm-refused, warm-read}
use Rattle.read_sheet.proofs.head_lines.table_lines.Goals as goal

pub returns-in_err-at : goal.returns-in_err-at
returns-in_err-at c =
    let e = exits _ c.in_err-at.field-0.0 c.from_residual.ensures.1 in
    rw e (head-refused _ _ _ _ (tables-refused _ _ _ _ _ (sym c.in_err-at.ensures.tables.reads.same)))

pub warm_lines-requires : goal.warm_lines-requires
warm_lines-requires c =
    let h = c.in_ok-at.ensures.tables in
    let z = zeros-length most_segs in
    let n = h.filled.sizes.within in
    let m = h.filled.holds.whole in
    (table-segs _ _ _ _ _ _ h.filled (sym h.reads.same), omega (arith, z, n), omega (arith, z, n, m))

pub returns-in_err-warm : goal.returns-in_err-warm
returns-in_err-warm c =
    let e = exits _ c.in_err-warm.field-0.0 c.from_residual-in_err-warm.ensures.1 in
    let h = c.in_ok-at.ensures.tables in
    rw e
    (head-refused _ _ _ _
    (warm-refused _ _ _ _ c.if-not-later.false _ _ _ h.reads.same (sizes-counted _ h.filled) _ (sym c.in_err-warm.ensures.reads.same)))

pub returns : goal.returns
returns c =
    let h = c.in_ok-at.ensures.tables in
    let w = c.in_ok-warm.ensures in
    record {
      reads =
          record {
            same =
                warm-read _ _ _ _ c.if-not-later.false c.cold_lines.new.head _ _ h.reads.same (sizes-counted _ h.filled) _ _ _
                (sym w.reads.same);
            within = tail-place _ _ _ h.reads.within w.reads.within;
          };
      filled =
          record {
            sizes = h.filled.sizes;
            prices = h.filled.prices;
            holds = subst (Filled _ _) (c.in_ok-at.ensures.holds_kept ∙ c.requires.holds_zero) w.filled;
          };
    }
