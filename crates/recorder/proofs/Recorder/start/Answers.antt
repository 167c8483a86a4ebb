-- `Recorder::start` meets its contract.
use mathlib.Core.Path.{◌∙◌}
use Rattle.recorder.proofs.Answers.{start-stands}
use Rattle.recorder.proofs.Recorder.start.Goals as goal

pub returns : goal.returns
returns c = λ v valid e. c.begin.ensures ∙ start-stands v valid c.args.sheet e
