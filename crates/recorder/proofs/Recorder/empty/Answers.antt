-- `Recorder::empty` meets its contract.
use mathlib.Core.Path.{refl, ◌∙◌}
use Rattle.model.specs.Values.{empty_head}
use Rattle.recorder.specs.Recorders.{empty_recorder}
use Rattle.recorder.proofs.Recorder.empty.Goals as goal

pub returns : goal.returns
unfolding empty_recorder empty_head
returns c = c.begin.ensures ∙ rw c.empty.ensures refl
