-- `read_sheet::all_lines` meets its contract: the length, the form line, and the answer to the rest.
use mathlib.Core.Path.{refl, sym}
use native.Mathlib.Omega.{arith}
use Rattle.model.specs.Values.{empty_head, empty_sheet}
use Rattle.sheet.specs.Answers.{answer_of}
use Rattle.sheet.specs.Order.{body_part}
use Rattle.sheet.specs.Reading.{at_end}
use Rattle.scan.proofs.LinesRead.{exits}
use Rattle.scan.proofs.Stages.{stage-read, stage-refused}
use Rattle.read_sheet.proofs.ReadStages.{answer-long, answer-short, form-bound}
use Rattle.read_sheet.proofs.all_lines.Goals as goal

pub returns-then-too_long : goal.returns-then-too_long
returns-then-too_long c = sym (answer-long _ _ _ _ c.too_long.ensures c.if-too_long.true)

pub overflow_cast-sheet : goal.overflow_cast-sheet
overflow_cast-sheet c =
    omega (arith, form-bound c.args.lo c.args.hi c.args.bytes.now _ _ (omega (arith, c.ranges.hi)) (sym c.in_ok-form.ensures.same))

pub sheet_lines-requires : goal.sheet_lines-requires
unfolding empty_sheet empty_head
sheet_lines-requires c =
    rw c.requires
    (record {
      head_blank = record { sizes_zero = refl; rows_zero = refl; none_warm = refl; holds_zero = refl };
      idle_all = refl;
      unmarked = refl;
    })

pub returns-in_err-form : goal.returns-in_err-form
unfolding answer_of
returns-in_err-form c =
    let e = exits _ c.in_err-form.field-0.0 c.from_residual.ensures.1 in
    rw e
    (answer-short _ _ _ _ _ c.too_long.ensures c.if-too_long.false
    (stage-refused (λ q. answer_of (at_end q)) _ _ _ _ refl (sym c.in_err-form.ensures.same)))

pub returns : goal.returns
unfolding body_part
returns c =
    answer-short _ _ _ _ _ c.too_long.ensures c.if-too_long.false
    (stage-read (λ q. answer_of (at_end q)) _ _ c.in_ok-form.form _ c.in_ok-form.first _ c.sheet_lines.ensures
    (sym c.in_ok-form.ensures.same))
