-- The loop of `vectors::line_text::find`: the place lies between the two that bound it, and the byte is not before it.
use Rattle.std.proofs.Common.{ℕ, ◌≢◌, ◌-◌, ◌<◌, ◌≤◌, get_or}
use Rattle.vectors.proofs.line_text.find.Given as goal

abbrev pub invariant-loop-i : goal.invariant-loop-i
invariant-loop-i l = record {
  from_start : l.at ≤ l.i;
  to_end : l.i ≤ l.end;
  not_before : (k : ℕ) → l.at ≤ k → k < l.i → get_or l.s k 0 ≢ l.byte;
}

abbrev pub decreases-loop-i : goal.decreases-loop-i
decreases-loop-i l = l.end - l.i
