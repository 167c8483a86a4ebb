-- `scan::bytes::has_key` meets its contract, by `starts_with` of slices.
use mathlib.Core.Path.{◌∙◌}
use Rattle.scan.proofs.Splits.{same-swap}
use Rattle.scan.proofs.bytes.has_key.Goals as goal

pub returns : goal.returns
returns c = c.starts_with.ensures.value ∙ same-swap _ _
