-- `write_sheet::head_text::head_length` meets its contract: the counts are cut off at the arrays' lengths, which changes no value, and the
-- lengths of the parts are added.
use mathlib.Core.Path.{◌≡◌, sym, ap, ◌∙◌}
use native.Mathlib.Omega.{arith}
use borrow.Author.Rules.{rules}
use lib.ListN.{length}
use Rattle.text.proofs.Lengths.{length-of}
use Rattle.write_sheet.specs.inner.Heads.{head_text}
use Rattle.write_sheet.proofs.ClampedHead.{clamped_head, head-clamped}
use Rattle.write_sheet.proofs.HeadParts.{head-length}
use Rattle.write_sheet.proofs.head_text.head_length.Goals.{Start}
use Rattle.write_sheet.proofs.head_text.head_length.Goals as goal

-- how long the arrays are
lengths : (s : Start)
    → (length s.args.head.sizes ≡ 256) × (length s.args.head.prices ≡ 64) × (length s.args.head.holds ≡ 256)
lengths s = (search rules, search rules, search rules)

pub returns : goal.returns
returns c =
    let a = c.args in
    let (l₁, l₂, l₃) = lengths (goal.at.returns c).Start in
    let k = c.min-segs in
    let n = c.min-rows in
    let m = c.min-warm in
    let e = head-clamped a.head k.result n.result m.result l₁ l₂ l₃ k.ensures n.ensures m.ensures in
    let f = head-length a.form (clamped_head a.head k.result n.result m.result) in
    length-of (sym (f ∙ omega arith) ∙ ap (λ h. length (head_text a.form h)) e, omega arith)
