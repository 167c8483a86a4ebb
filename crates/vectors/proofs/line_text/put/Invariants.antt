-- The loop of `vectors::line_text::put`: the bytes that are put are counted within 64 bits, and each is of the text.
use Rattle.std.proofs.Common.{◌+◌, ◌-◌, ◌*◌, ◌<◌, ◌≤◌, length}
use Rattle.vectors.proofs.line_text.put.Given as goal

abbrev pub invariant-loop-k : goal.invariant-loop-k
invariant-loop-k l = (0 < l.each) × (l.each + 3 ≤ length l.text) × (l.k ≤ l.bytes) × (l.bytes ≤ 65535 * 65535)

abbrev pub decreases-loop-k : goal.decreases-loop-k
decreases-loop-k l = l.bytes - l.k
