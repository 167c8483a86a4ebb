-- `recording::start` meets its contract: what the sheet reads as decides.
use Rattle.analyser.specs.Recording.{no_recorder, start_answer}
use Rattle.model.specs.Values.{value_of}
use Rattle.recorder.specs.Recorders.{recorder_of, started}
use Rattle.recorder.specs.declared.Recorder.{Recorder}
use Rattle.recorder.specs.declared.TouchAnswer.{TouchAnswer}
use Rattle.sheet.proofs.Accepting.{on-refused, on-accepted, forms-stand, sheet-is}
use Rattle.std.specs.Prelude.{Ok}
use mathlib.Core.Path.{sym, ap, ◌∙◌}
use native.Mathlib.Omega.{arith}
use Rattle.analyser.proofs.recording.start.Goals as goal

with-recorder : Recorder → TouchAnswer
with-recorder R = record { verdict = Ok tt; recorder = R }

pub returns-in-Err : goal.returns-in-Err
unfolding start_answer
returns-in-Err c =
    c.no_recorder.ensures
    ∙ sym (on-refused _ _ c.in-Err.ensures no_recorder (λ v. record { verdict = Ok tt; recorder = recorder_of (started v) }))

pub returns-in-Ok : goal.returns-in-Ok
unfolding start_answer with-recorder
returns-in-Ok c =
    let e = c.in-Ok.ensures in
    ap with-recorder (c.start.ensures (value_of _) (forms-stand 1 3 _ _ e (omega arith)).valid (sheet-is _ _ e))
    ∙ sym (on-accepted _ _ e no_recorder (λ w. record { verdict = Ok tt; recorder = recorder_of (started w) }))
