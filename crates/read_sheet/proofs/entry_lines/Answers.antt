-- `read_sheet::entry_lines` meets its contract: the entries of form 2 on, or those of form 1.
use mathlib.Core.Path.{refl, ap, ◌∙◌}
use native.Mathlib.Omega.{arith}
use lib.ListN.{length}
use Rattle.model.specs.Sheets.{most_steps}
use Rattle.model.proofs.Values.{idles-length}
use Rattle.sheet.specs.Lines.{split_at}
use Rattle.read_sheet.proofs.EntriesRead.{steps-read, refs-read}
use Rattle.read_sheet.proofs.entry_lines.Goals as goal

pub returns-then-form-ge2 : goal.returns-then-form-ge2
returns-then-form-ge2 c = steps-read _ _ _ _ _ _ _ _ c.if-form-ge2.true c.step_lines.ensures

pub counted_lines-requires : goal.counted_lines-requires
unfolding split_at
counted_lines-requires c =
    let p = c.requires in
    record {
      count_value = (refl, refl);
      out_len_bound = (omega (arith, ap length p.idle_all, idles-length most_steps), omega (arith, p.few));
    }

pub returns : goal.returns
returns c =
    let m = ap length c.requires.idle_all ∙ idles-length most_steps in
    refs-read _ _ _ _ _ _ _ _ c.if-form-ge2.false m c.counted_lines.ensures
