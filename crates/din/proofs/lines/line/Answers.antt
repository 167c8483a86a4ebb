-- `line` meets its contract: the label and the blank, and then the address behind them.
use mathlib.Core.Path.{◌≡◌, ◌∙◌}
use native.Mathlib.Omega.{arith}
use lib.ListN.{get_or}
use borrow.Author.Rules.{rules}
use Rattle.std.specs.Prelude.{None}
use Rattle.din.proofs.Digits.{within, below, above}
use Rattle.din.proofs.FirstLines.{line-short, line-unlabelled, line-unparted, line-address, line-next}
use Rattle.din.proofs.lines.line.Goals as goal

pub returns-in_default-clause-result_value : goal.returns-in_default-clause-result_value
returns-in_default-clause-result_value c = line-short c.args.s.now (omega arith) (omega arith)

pub returns-in_default-2-clause-result_value : goal.returns-in_default-2-clause-result_value
returns-in_default-2-clause-result_value c = line-unlabelled c.args.s.now (omega arith) (below 48 50 (get_or c.args.s.now 0 0) (omega arith))

pub returns-in_default-3-clause-result_value : goal.returns-in_default-3-clause-result_value
returns-in_default-3-clause-result_value c =
    line-unparted c.args.s.now (omega arith) (within 48 50 (get_or c.args.s.now 0 0) (omega arith) (omega arith)) (λ e. absurd (omega arith))

pub returns-in_default-4-clause-result_value : goal.returns-in_default-4-clause-result_value
returns-in_default-4-clause-result_value c = line-unlabelled c.args.s.now (omega arith) (above 48 50 (get_or c.args.s.now 0 0) (omega arith) (omega arith))

pub returns-in_err-found-clause-result_value : goal.returns-in_err-found-clause-result_value
returns-in_err-found-clause-result_value c =
    let none : c.from_residual.result ≡ None = search rules in
    rw none
    (c.in_err-found.ensures.result_value
    ∙ line-address c.args.s.now (omega arith) (within 48 50 (get_or c.args.s.now 0 0) (omega arith) (omega arith)) (omega arith))

pub returns-clause-result_value : goal.returns-clause-result_value
returns-clause-result_value c =
    line-next c.args.s.now (omega arith) (within 48 50 (get_or c.args.s.now 0 0) (omega arith) (omega arith)) (omega arith) _ c.in_ok-found.found.next
    c.in_ok-found.ensures.result_value
