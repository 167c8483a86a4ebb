-- `write_sheet::text_length` meets its contract: the counts are cut off at the arrays' lengths, which changes no value, and the lengths of
-- the parts are added.
use mathlib.Core.Path.{◌≡◌, sym, ap, ◌∙◌}
use native.Mathlib.Omega.{arith}
use borrow.Author.Rules.{rules}
use lib.ListN.{length}
use Rattle.sheet.specs.Writing.{sheet_text}
use Rattle.write_sheet.proofs.Clamped.{clamped, value-clamped}
use Rattle.write_sheet.proofs.SheetParts.{parts-length}
use Rattle.write_sheet.proofs.text_length.Goals.{Start}
use Rattle.write_sheet.proofs.text_length.Goals as goal

-- how long the arrays are
lengths : (s : Start) → (length s.args.sheet.touches ≡ 2048) × (length s.args.sheet.marks ≡ 2048)
lengths s = (search rules, search rules)

pub returns : goal.returns
returns c =
    let (l₁, l₂) = lengths (goal.at.returns c).Start in
    let v = clamped c.args.sheet c.min-steps.result c.min-marked.result in
    let e = value-clamped c.args.sheet c.min-steps.result c.min-marked.result l₁ l₂ c.min-steps.ensures c.min-marked.ensures in
    sym (parts-length v ∙ omega arith) ∙ ap (λ w. length (sheet_text w)) e
