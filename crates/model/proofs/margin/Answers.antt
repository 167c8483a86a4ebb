-- `model::margin` meets its contract: both prices are below 2 ^ 62, so each is itself as a signed number and the difference fits.
use mathlib.Core.Path.{◌≡◌, ◌∙◌}
use native.Mathlib.Omega.{arith}
use lib.IntN.{pos}
use mir.Syntax.{w64}
use mir.Val.{to_z}
use mir.ValLaws.{to_z-of_z, to_z_pos}
use Rattle.model.proofs.Margins.{margin-fits}
use Rattle.model.proofs.margin.Goals.{Start}
use Rattle.model.proofs.margin.Goals as goal

swap_is : (c : Start) → to_z w64 c.args.swap.0 ≡ pos c.args.swap.0
swap_is c = to_z_pos w64 c.args.swap.0 (omega arith)

retention-is : (c : Start) → to_z w64 c.args.retention.0 ≡ pos c.args.retention.0
retention-is c = to_z_pos w64 c.args.retention.0 (omega arith)

pub overflow_sub-result : goal.overflow_sub-result
overflow_sub-result c =
    rw (swap_is (goal.at.overflow_sub-result c).Start, retention-is (goal.at.overflow_sub-result c).Start)
    (margin-fits c.args.retention.0 c.args.swap.0 c.requires.0 c.requires.1)

pub returns : goal.returns
returns c = to_z-of_z w64 _ (overflow_sub-result c) ∙ rw (swap_is (goal.at.returns c).Start, retention-is (goal.at.returns c).Start)
