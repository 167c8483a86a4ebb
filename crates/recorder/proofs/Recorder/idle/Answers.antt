-- `Recorder::idle` meets its contract: accepted, it has one step more.
use mathlib.Core.Path.{sym, ◌∙◌}
use Rattle.recorder.proofs.Answers.{idle-accepted}
use Rattle.recorder.proofs.Recorder.idle.Goals as goal

pub returns-in-Ok : goal.returns-in-Ok
returns-in-Ok c = rw c.in-Ok.is (idle-accepted _ (sym c.idle_verdict-verdict.ensures ∙ c.in-Ok.is))
