-- What the recorder's start answers: the sheet's refusals. What a touch, an idle step and reading the figures answer is written in crate
-- `recorder`. And every recorder that a start and the calls after it handed back, and what holds of it.
use Rattle.model.specs.declared.RowFigures.{RowFigures}
use Rattle.std.specs.Prelude.{ℕ, max, ◌≡◌, List, [], ◌∷◌, ◌++◌, length, get_or, Result, Ok, Err}
use Rattle.model.specs.Sums.{sum}
use Rattle.model.specs.Sheets.{SheetValue, Valid, idle, trace_of}
use Rattle.model.specs.Traces.{refs_of}
use Rattle.model.specs.declared.Refusal.{Refusal}
use Rattle.sheet.specs.Reading.{accepted, rejected, read_forms}
use Rattle.buckets.specs.Buckets.{bucket_count}
use Rattle.model.specs.RowAnswers.{figures_of}
use Rattle.buckets.specs.Buckets.{no_bucket}
use Rattle.recorder.specs.Recorders.{recorder_of, empty_recorder, started, Touched, TouchedAll, Rested, Figured}
use Rattle.recorder.specs.declared.Recorder.{Recorder}
use Rattle.recorder.specs.declared.TouchAnswer.{TouchAnswer}
use Rattle.sheet.specs.Accepting.{on_sheet}

-- no segments and no rows beside the refusal
abbrev pub no_recorder : Refusal → TouchAnswer
no_recorder r = record { verdict = Err r; recorder = empty_recorder }

-- the recorder of the sheet's kind, a, sizes and rows with no steps; a sheet of form 4 is 4 (request F-13)
unfoldable pub start_answer : List ℕ → TouchAnswer
start_answer s = on_sheet (read_forms 1 3 s) no_recorder (λ v. record { verdict = (Ok tt); recorder = recorder_of (started v) })

-- what a call takes of the entries xs: all, or where it is refused none
abbrev pub taken_of : Result (Unit {0}) Refusal → List ℕ → List ℕ
taken_of (Ok u) xs = xs
taken_of (Err why) xs = []

-- R was handed back by a start on the bytes s, or by a call on a recorder that was; `taken` are the entries of the steps taken since the
-- start, a segment for a reference and `idle` for a step without a touch. The calls and the start may have been refused
pub data Handed (s : List ℕ) : (taken : List ℕ) → (R : Recorder) → Type 0 where
  begun : Handed s [] (start_answer s).recorder
  touched : {taken : List ℕ} {R : Recorder} → Handed s taken R → (x : ℕ) (r : TouchAnswer) → Touched R x r
      → Handed s (taken ++ taken_of r.verdict (x ∷ [])) r.recorder
  touched-all : {taken : List ℕ} {R : Recorder} → Handed s taken R → (xs : List ℕ) (r : TouchAnswer) → TouchedAll R xs r
      → Handed s (taken ++ taken_of r.verdict xs) r.recorder
  idled : {taken : List ℕ} {R : Recorder} → Handed s taken R → (r : TouchAnswer) → Rested R r
      → Handed s (taken ++ taken_of r.verdict (idle ∷ [])) r.recorder

-- the sheet that ends at the steps taken: of form 2 on, since they may be idle
abbrev pub recorded_of : SheetValue → List ℕ → SheetValue
recorded_of v taken = record { form = max 2 v.form; head = v.head; entries = taken; marks = [] }

-- the recorder without segments and rows after n idle steps
abbrev pub empty_after : ℕ → Recorder
empty_after n =
    record {
      head = empty_recorder.head;
      steps = n;
      last = empty_recorder.last;
      buckets = empty_recorder.buckets;
      cost = empty_recorder.cost;
      volume = empty_recorder.volume;
    }

-- what holds of such a recorder
pub record Recorded (s taken : List ℕ) (R : Recorder) : Type 0 where
  -- it stands for a valid sheet, the head of the one that was read with the steps taken; where the start was refused it has no segments
  pub valid : (v : SheetValue) → read_forms 1 3 s ≡ accepted v → Valid (recorded_of v taken)
  pub stands : (v : SheetValue) → read_forms 1 3 s ≡ accepted v → R ≡ recorder_of (recorded_of v taken)
  pub empty : (why : Refusal) → read_forms 1 3 s ≡ rejected why → R ≡ empty_after (length taken)
  -- it counts the steps taken, and the counts of its buckets add up to the references among them
  pub counts_steps : R.steps ≡ length taken
  pub counts_add_up : (v : SheetValue) → read_forms 1 3 s ≡ accepted v
      → sum bucket_count (λ k. (get_or R.buckets k no_bucket).count) ≡ refs_of (trace_of (recorded_of v taken))
  -- its figures are those of that sheet
  pub figures : (v : SheetValue) → read_forms 1 3 s ≡ accepted v → (row : ℕ) (r : Result RowFigures Refusal) → Figured R row r
      → r ≡ figures_of (recorded_of v taken) row
