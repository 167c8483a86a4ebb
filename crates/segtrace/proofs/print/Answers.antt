-- `segtrace::print` is safe: what is printed lies within the buffer.
use Rattle.std.proofs.Common.{sym, arith}
use lib.Seq.{length-take-le}
use Rattle.model.proofs.Places.{left-length}
use Rattle.segtrace.proofs.print.Goals as goal

pub slice_bounds-write_all-end : goal.slice_bounds-write_all-end
slice_bounds-write_all-end c = omega (arith, left-length c.in-Ok.ensures)

pub slice_bounds-write_all-end-in-Ok : goal.slice_bounds-write_all-end-in-Ok
slice_bounds-write_all-end-in-Ok c = sym (length-take-le _ _ (omega (arith, left-length c.in-Ok.ensures)))
