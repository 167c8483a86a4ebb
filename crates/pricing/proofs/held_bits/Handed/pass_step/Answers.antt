-- `pass_step` meets its contract. The loop's invariant: the segments of the first m words are passed.
use Rattle.pricing.proofs.Changing.{passed_none}
use Rattle.pricing.proofs.held_bits.Handed.pass_step.Goals as goal

pub loop-m-init : goal.loop-m-init
loop-m-init c = passed_none _ _ _
