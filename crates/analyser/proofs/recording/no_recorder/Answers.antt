-- `analyser::recording::no_recorder` meets its contract: the recorder beside the refusal is the empty one.
use Rattle.analyser.proofs.recording.no_recorder.Goals as goal

pub returns : goal.returns
returns c = cc
