-- `scan::bytes::same` meets its contract, by `==` of slices.
use mathlib.Core.Path.{◌∙◌}
use Rattle.scan.proofs.Splits.{same-is}
use Rattle.scan.proofs.bytes.same.Goals as goal

pub returns : goal.returns
returns c = c.eq.ensures ∙ same-is _ _
