-- `write_sheet::touch_text::entry_length` meets its contract: an idle entry has no line.
use mathlib.Core.Path.{sym, ap, ◌∙◌}
use native.Mathlib.Omega.{arith}
use lib.ListN.{length}
use Rattle.text.proofs.Lengths.{length-of}
use Rattle.write_sheet.proofs.TouchLines.{text-idle, text-touch}
use Rattle.write_sheet.proofs.touch_text.entry_length.Goals as goal

pub returns-then-is_idle : goal.returns-then-is_idle
returns-then-is_idle c = length-of (sym (ap length (text-idle _ _ _ (sym c.is_idle.ensures ∙ c.if-is_idle.true))), omega arith)

pub returns : goal.returns
returns c =
    let t = text-touch _ _ _ _ c.modifies_at.ensures (sym c.is_idle.ensures ∙ c.if-is_idle.false) in
    let l = c.touch_length.ensures in
    length-of (l.is_length ∙ ap length t, l.at_most)
