-- The loop's invariant of `read_sheet::warm_lines::hold_lines`: the segments of the lines passed stand at the front of `out`.
use Rattle.std.proofs.Math.Option.{none}
use Rattle.sheet.specs.Warm.{hold_lines}
use Rattle.scan.proofs.LinesPassed.{PassedWhole}
use Rattle.read_sheet.specs.inner.Values.{before}
use Rattle.read_sheet.proofs.warm_lines.hold_lines.Given as goal

abbrev pub invariant-loop-place : goal.invariant-loop-place
invariant-loop-place l = PassedWhole (hold_lines l.segs) none l.s l.initial.out l.out (before l.prev) l.at l.place-index
