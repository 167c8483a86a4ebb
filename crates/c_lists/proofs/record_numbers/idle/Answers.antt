-- `c_lists::record_numbers::idle` meets its contract.
use mathlib.Core.Path.{sym, ◌∙◌}
use Rattle.c_lists.proofs.RecorderLists.{counts-more, counts-stay}
use Rattle.c_lists.proofs.record_numbers.idle.Goals as goal

pub returns-in_err-idle_verdict-clause-counted : goal.returns-in_err-idle_verdict-clause-counted
returns-in_err-idle_verdict-clause-counted c = counts-stay _ _ (sym c.idle_verdict.ensures ∙ c.in_err-idle_verdict.was)

pub returns-clause-counted : goal.returns-clause-counted
returns-clause-counted c = counts-more _ (sym c.idle_verdict.ensures ∙ c.in_ok-idle_verdict.was)
