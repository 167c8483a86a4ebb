-- `read_sheet::warm_lines::hold_line` meets its contract: the line's number, and then whether it may stand there.
use mathlib.Core.Path.{refl, sym, ◌∙◌}
use native.Mathlib.Omega.{arith}
use Rattle.sheet.specs.Lines.{split_at}
use Rattle.sheet.specs.Warm.{hold_line}
use Rattle.scan.proofs.LinesRead.{exits}
use Rattle.read_sheet.proofs.warm_lines.hold_line.Goals as goal

pub number_line-requires : goal.number_line-requires
unfolding split_at
number_line-requires c = refl

pub returns-in_err-n : goal.returns-in_err-n
unfolding hold_line
returns-in_err-n c =
    let e = exits _ c.in_err-n.field-0.0 c.from_residual.ensures.1 in
    rw (e, ← c.in_err-n.ensures.same) (record { same = refl; within = omega arith })

pub returns-then-above_hold : goal.returns-then-above_hold
unfolding hold_line
returns-then-above_hold c =
    let l = c.in_ok-n.ensures in
    record { same = rw (← l.same, sym c.above_hold.ensures ∙ c.if-above_hold.true); within = l.within }

pub returns : goal.returns
unfolding hold_line
returns c = record { same = rw (← c.in_ok-n.ensures.same, sym c.above_hold.ensures ∙ c.if-above_hold.false); within = omega arith }
