-- `c_lists::put_row` meets its contract.
use mathlib.Core.Path.{refl, ◌∙◌}
use mathlib.Core.List.{append_assoc}
use native.Mathlib.Omega.{arith}
use Rattle.std.proofs.lemmas.Slice.{put_mid-paste}
use Rattle.text.proofs.Putting.{put_of}
use Rattle.text.specs.inner.Puts.{put_at}
use Rattle.c_lists.specs.Figures.{figure_list}
use Rattle.c_lists.proofs.put_row.Goals as goal

pub returns : goal.returns
unfolding put_at
returns c = put_of (figure_list c.args.f) _ _ c.requires refl
    (let text = figure_list c.args.f in
    put_mid-paste _ _ _ _ text 11 (c.copy_from_slice.ensures.after ∙ c.of_row.ensures) (omega arith) refl ∙ append_assoc _ text _)
