-- `read_sheet::head_lines::head_lines` meets its contract: the kind, a, and then the sizes, the rows and the warm segments.
use mathlib.Core.Path.{refl, sym}
use native.Mathlib.Omega.{arith}
use Rattle.std.specs.Prelude.{Ok, Err}
use Rattle.model.specs.Values.{head_value_of}
use Rattle.sheet.specs.Lines.{split_at}
use Rattle.scan.proofs.LinesRead.{exits}
use Rattle.scan.proofs.NumberLines.{number-bounds}
use Rattle.scan.proofs.Tails.{tail-place}
use Rattle.read_sheet.proofs.HeadParts.{head-refused, kind-refused, a-refused, a-read}
use Rattle.read_sheet.proofs.head_lines.head_lines.Goals as goal

pub number_line-requires : goal.number_line-requires
unfolding split_at
number_line-requires c = refl

pub overflow_cast-head : goal.overflow_cast-head
overflow_cast-head c = omega (arith, number-bounds _ _ _ _ _ _ (sym c.in_ok-a.ensures.same))

pub returns-in_err-kind : goal.returns-in_err-kind
returns-in_err-kind c =
    let e = exits _ c.in_err-kind.field-0.0 c.from_residual.ensures.1 in
    rw e (head-refused _ _ _ _ (kind-refused _ _ _ _ (sym c.in_err-kind.ensures.same)))

pub returns-in_err-a : goal.returns-in_err-a
returns-in_err-a c =
    let e = exits _ c.in_err-a.field-0.0 c.from_residual-in_err-a.ensures.1 in
    rw e (head-refused _ _ _ _ (a-refused _ _ _ _ _ (sym c.in_ok-kind.ensures.same) _ (sym c.in_err-a.ensures.same)))

pub returns-in_err-next : goal.returns-in_err-next
returns-in_err-next c =
    let e = exits _ c.in_err-next.field-0.0 c.from_residual-in_err-next.ensures.1 in
    let k = c.in_ok-kind.ensures in
    let a = c.in_ok-a.ensures in
    rw e
    (record {
      reads =
          a-read _ _ _ _ _ (sym k.same) _ _ (Err _) (Err _) (head_value_of c.table_lines.new.head) (tail-place _ _ _ k.within a.within)
          (sym a.same) c.in_err-next.ensures.reads refl;
      filled = tt;
    })

pub returns : goal.returns
returns c =
    let k = c.in_ok-kind.ensures in
    let a = c.in_ok-a.ensures in
    record {
      reads =
          a-read _ _ _ _ _ (sym k.same) _ _ (Ok _) (Ok _) _ (tail-place _ _ _ k.within a.within) (sym a.same)
          c.in_ok-next.ensures.reads refl;
      filled = c.in_ok-next.ensures.filled;
    }
