-- `first_rows` meets its contract: the rows were copied to the front.
use Rattle.model.specs.Values.{zero_rows, padded}
use Rattle.join.proofs.joint_heads.first_rows.Goals as goal

pub returns : goal.returns
unfolding zero_rows padded
returns c = rw c.copy_from_slice.ensures.after
