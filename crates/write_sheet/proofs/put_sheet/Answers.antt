-- `write_sheet::put_sheet` meets its contract: the counts are cut off at the arrays' lengths, which changes no value, and the parts are put
-- one after another.
use mathlib.Core.Path.{◌≡◌, ap, ◌∙◌}
use native.Mathlib.Omega.{arith}
use borrow.Author.Rules.{rules}
use lib.ListN.{length, length-take}
use Rattle.model.specs.Sheets.{SheetValue}
use Rattle.model.specs.Values.{value_of}
use Rattle.sheet.specs.Writing.{sheet_text}
use Rattle.text.proofs.Putting.{put_same, put_then}
use Rattle.write_sheet.proofs.Clamped.{clamped, value-clamped}
use Rattle.write_sheet.proofs.SheetParts.{text-parts, parts-length}
use Rattle.write_sheet.proofs.put_sheet.Goals.{After-min-marked, Start}
use Rattle.write_sheet.proofs.put_sheet.Goals as goal

-- how long the arrays are
lengths : (s : Start) → (length s.args.sheet.touches ≡ 2048) × (length s.args.sheet.marks ≡ 2048)
lengths s = (search rules, search rules)

-- the value that is written
abbrev written : After-min-marked → SheetValue
written m = clamped m.args.sheet m.min-steps.result m.min-marked.result

-- it is that of the sheet
same : (m : After-min-marked) → written m ≡ value_of m.args.sheet
same m =
    let lengths' : (length m.args.sheet.touches ≡ 2048) × (length m.args.sheet.marks ≡ 2048) = (search rules, search rules) in
    let (l₁, l₂) = lengths' in
    value-clamped m.args.sheet m.min-steps.result m.min-marked.result l₁ l₂ m.min-steps.ensures m.min-marked.ensures

-- there is room for its parts
room : (m : After-min-marked) → length (sheet_text (written m)) ≡ length (sheet_text (value_of m.args.sheet))
room m = ap (λ v. length (sheet_text v)) (same m)

pub put_head-run-requires : goal.put_head-run-requires
put_head-run-requires c =
    omega (
      arith,
      room (goal.at.put_head-run-requires c).After-min-marked,
      parts-length (clamped c.args.sheet c.min-steps.result c.min-marked.result),
      c.requires,
      c.put_form-first.ensures.ends,
    )

pub put_run-requires : goal.put_run-requires
put_run-requires c =
    let l = parts-length (clamped c.args.sheet c.min-steps.result c.min-marked.result) in (
      simp length-take (omega arith),
      omega (
        arith,
        room (goal.at.put_run-requires c).After-min-marked,
        l,
        c.requires,
        c.put_form-first.ensures.ends,
        c.put_head-run.ensures.ends,
      ),
    )

pub returns : goal.returns
returns c =
    put_same (text-parts (clamped c.args.sheet c.min-steps.result c.min-marked.result)
    ∙ ap sheet_text (same (goal.at.returns c).After-min-marked))
    (put_then c.put_form-first.ensures (put_then c.put_head-run.ensures c.put_run.ensures))

pub put_form-first-requires : goal.put_form-first-requires
put_form-first-requires c = omega (
  arith,
  room (goal.at.put_form-first-requires c).After-min-marked,
  parts-length (clamped c.args.sheet c.min-steps.result c.min-marked.result),
  c.requires,
)
