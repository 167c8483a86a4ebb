-- `write_sheet::touch_text::put_entry` meets its contract: nothing is put for an idle entry.
use mathlib.Core.Path.{sym, ap, ◌∙◌}
use native.Mathlib.Omega.{arith}
use lib.ListN.{length}
use Rattle.model.specs.Sheets.{marks_of}
use Rattle.text.proofs.Putting.{put-nothing, put_same}
use Rattle.write_sheet.proofs.TouchLines.{text-idle, text-touch}
use Rattle.write_sheet.proofs.touch_text.put_entry.Goals as goal

pub returns-then-is_idle : goal.returns-then-is_idle
returns-then-is_idle c = put_same (sym (text-idle _ _ _ (sym c.is_idle.ensures ∙ c.if-is_idle.true))) (put-nothing _ _ (omega arith))

pub put_touch-requires : goal.put_touch-requires
put_touch-requires c =
    let i = sym c.is_idle.ensures ∙ c.if-is_idle.false in
    let a = c.args in
    let t = text-touch (marks_of a.marks.now) a.before a.x c.modifies_at.result c.modifies_at.ensures i in
    omega (arith, ap length t, c.requires)

pub returns : goal.returns
returns c =
    put_same (text-touch _ _ _ _ c.modifies_at.ensures (sym c.is_idle.ensures ∙ c.if-is_idle.false)) c.put_touch.ensures
