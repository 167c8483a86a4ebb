-- `window_list::time_zero` meets its contract: the kind is tested, then a.
use mathlib.Core.Path.{sym}
use Rattle.window_list.proofs.Answers.{time-space, time-weight, time-none}
use Rattle.window_list.proofs.time_zero.Goals as goal

pub returns-in-Time-eq0 : goal.returns-in-Time-eq0
returns-in-Time-eq0 c = sym (time-none _ _ c.in-Time-eq0.is-0 c.in-Time-eq0.is-1)

pub returns-in_default : goal.returns-in_default
returns-in_default c = sym (time-weight _ _ c.in_default.is-0 c.in_default.is-1.1)

pub returns-in_default-2 : goal.returns-in_default-2
returns-in_default-2 c = sym (time-space _ _ c.in_default.is-0)
