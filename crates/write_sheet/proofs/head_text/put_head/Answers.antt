-- `write_sheet::head_text::put_head` meets its contract: the counts are cut off at the arrays' lengths, which changes no value, and the
-- parts are put one after another.
use Prim.Native.Nat.{◌+◌}
use mathlib.Core.Path.{◌≡◌, sym, ap, ◌∙◌}
use native.Mathlib.Omega.{arith}
use borrow.Author.Rules.{rules}
use lib.ListN.{length}
use Rattle.model.specs.Sheets.{HeadValue}
use Rattle.model.specs.Values.{head_value_of}
use Rattle.text.proofs.Putting.{put_same, put_then}
use Rattle.write_sheet.specs.inner.Heads.{segments_text, priced_text, warm_text, head_text}
use Rattle.write_sheet.proofs.ClampedHead.{clamped_head, head-clamped}
use Rattle.write_sheet.proofs.HeadParts.{head-length}
use Rattle.write_sheet.proofs.head_text.put_head.Goals.{After-min-warm, Start}
use Rattle.write_sheet.proofs.head_text.put_head.Goals as goal

-- how long the arrays are
lengths : (s : Start)
    → (length s.args.head.sizes ≡ 256) × (length s.args.head.prices ≡ 64) × (length s.args.head.holds ≡ 256)
lengths s = (search rules, search rules, search rules)

-- the head whose counts are cut off
abbrev clampedAt : After-min-warm → HeadValue
clampedAt r =
    clamped_head r.args.head
    r.min-segs.result r.min-rows.result r.min-warm.result

-- it is the head's value
same : (r : After-min-warm) → clampedAt r ≡ head_value_of r.args.head
same r =
    let lengths' : (length r.args.head.sizes ≡ 256) × (length r.args.head.prices ≡ 64) ×
    (length r.args.head.holds ≡ 256) = (search rules, search rules, search rules) in
    let (l₁, l₂, l₃) = lengths' in
    head-clamped _ _ _ _ l₁ l₂ l₃
    r.min-segs.ensures r.min-rows.ensures r.min-warm.ensures

-- and its text is as long as its parts
whole : (r : After-min-warm)
    → (let a = r.args in
    let h = clampedAt r in
    length (head_text a.form (head_value_of a.head))
    ≡ length (segments_text h.kind h.a h.sizes) + (length (priced_text h.rows) + length (warm_text a.form h.warm)))
whole r =
    let a = r.args in
    ap (λ h. length (head_text a.form h)) (sym (same r)) ∙ head-length a.form (clampedAt r)

pub put_segments-priced-requires : goal.put_segments-priced-requires
put_segments-priced-requires c =
    omega (arith, whole (goal.at.put_segments-priced-requires c).After-min-warm, c.requires)

pub put_priced-held-requires : goal.put_priced-held-requires
put_priced-held-requires c =
    omega (
      arith,
      whole (goal.at.put_priced-held-requires c).After-min-warm,
      c.requires,
      c.put_segments-priced.ensures.ends,
    )

pub put_warm-requires : goal.put_warm-requires
put_warm-requires c =
    omega (
      arith,
      whole (goal.at.put_warm-requires c).After-min-warm,
      c.requires,
      c.put_segments-priced.ensures.ends,
      c.put_priced-held.ensures.ends,
    )

pub returns : goal.returns
unfolding head_text
returns c =
    let a = c.args in
    put_same (ap (head_text a.form) (same (goal.at.returns c).After-min-warm))
    (put_then c.put_segments-priced.ensures (put_then c.put_priced-held.ensures c.put_warm.ensures))
