-- The loop's invariant of `read_sheet::row_lines::row_lines`: the rows of the lines passed stand at the front of `out`.
use Rattle.std.proofs.Math.Option.{none}
use Rattle.sheet.specs.Values.{row_lines}
use Rattle.scan.proofs.LinesPassed.{PassedWhole}
use Rattle.read_sheet.specs.inner.Values.{before}
use Rattle.read_sheet.proofs.row_lines.row_lines.Given as goal

abbrev pub invariant-loop-place : goal.invariant-loop-place
invariant-loop-place l = PassedWhole row_lines none l.s l.initial.out l.out (before l.prev) l.at l.place-index
