-- What the exported calls on a recorder in lists of numbers return and leave.
use Rattle.model.specs.declared.Refusal.{Refusal}
use Rattle.model.specs.declared.RowFigures.{RowFigures}
use Rattle.std.specs.Prelude.{ℕ, ◌≡◌, List, get_or, Result}
use Rattle.model.specs.Refusals.{verdict_number}
use Rattle.recorder.specs.Recorders.{Figured, room_verdict}
use Rattle.recorder.specs.declared.Recorder.{Recorder}
use Rattle.recorder.specs.declared.TouchAnswer.{TouchAnswer}
use Rattle.c_lists.specs.Figures.{figure_list}
use Rattle.c_lists.specs.Recorders.{RecorderLists, recorder_in, lists_of, with_taken, idle_counts}
use Rattle.analyser.specs.Recording.{start_answer}
use Rattle.exports.specs.Exported.{or_old}

-- start: accepted, the lists are those of the answer's recorder; refused, they are as they were
pub record StartCall (s : List ℕ) (l l' : RecorderLists) (returned : ℕ) : Type 0 where
  pub returned_is : returned ≡ verdict_number (start_answer s).verdict
  pub lists_are : l' ≡ or_old (λ u. lists_of (start_answer s).recorder) (start_answer s).verdict l

-- one touch or several: an answer that the recorder in the lists gives. Accepted, what the answer's recorder has taken stands in the
-- lists; refused, they are as they were
pub record TouchCall (Answers : Recorder → TouchAnswer → Type 0) (l l' : RecorderLists) (returned : ℕ) : Type 0 where
  pub answer : TouchAnswer
  pub answered : Answers (recorder_in l) answer
  pub returned_is : returned ≡ verdict_number answer.verdict
  pub lists_are : l' ≡ or_old (λ u. with_taken l answer.recorder) answer.verdict l

-- one idle step, by the counts alone: accepted, the first of them, the steps taken, is one more; refused, they are as they were
pub record IdleCall (counts counts' : List ℕ) (returned : ℕ) : Type 0 where
  pub returned_is : returned ≡ verdict_number (room_verdict (get_or counts 0 0))
  pub counts_are : counts' ≡ idle_counts counts

-- the figures of a row: an answer that the recorder gives, and the lent numbers after it
pub record FiguresCall (l : RecorderLists) (row : ℕ) (out out' : List ℕ) (returned : ℕ) : Type 0 where
  pub answer : Result RowFigures Refusal
  pub figured : Figured (recorder_in l) row answer
  pub returned_is : returned ≡ verdict_number answer
  pub out_is : out' ≡ or_old figure_list answer out
