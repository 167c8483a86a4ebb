-- `c_lists::record_numbers::recorder_of` meets its contract.
use mathlib.Core.Path.{refl}
use Rattle.c_lists.specs.Recorders.{recorder_in}
use Rattle.c_lists.proofs.record_numbers.recorder_of.Goals as goal

pub returns : goal.returns
unfolding recorder_in
returns c =
    rw (c.kind_of.ensures, c.min.ensures, c.rows_of.ensures, c.buckets_of.ensures) refl
