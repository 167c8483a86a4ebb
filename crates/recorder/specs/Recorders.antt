-- What a recorder stands for: the head of a sheet and its steps so far, each with a touch or idle. A recorder that a start and the
-- calls after it handed back stands for such a value; of any other, put together by hand, only the refusals are said, and that an idle step
-- is one step more.
use Rattle.model.specs.declared.RowFigures.{RowFigures}
use Rattle.std.specs.Prelude.{ℕ, suc, ◌+◌, min, max, ◌≡◌, cond, List, [], ◌∷◌, ◌++◌, length, ltb, Result, Ok, Err, is_ok}
use Rattle.model.specs.Figures.{ref_cost, ref_volume}
use Rattle.model.specs.Sheets.{SheetValue, Valid, trace_of, idle, most_segs, most_rows, most_steps}
use Rattle.model.specs.declared.Refusal.{Refusal}
use Rattle.model.specs.declared.Refusal.TheVariants.{OutOfRange, NoSuchRow, RecorderFull}
use Rattle.model.specs.Values.{head_of, empty_head}
use Rattle.buckets.specs.Buckets.{bucket_count, bucket_after, all_empty}
use Rattle.model.specs.Sums.{tabulate}
use Rattle.model.specs.LastTouches.{start_table, last_table}
use Rattle.model.specs.RowAnswers.{figures_of}
use Rattle.recorder.specs.declared.Recorder.{Recorder}
use Rattle.recorder.specs.declared.TouchAnswer.{TouchAnswer}

-- the recorder that stands for a sheet's value, whatever its form: its head, and what the pass has after its steps
unfoldable pub recorder_of : SheetValue → Recorder
recorder_of v =
    record {
      head = head_of v.head;
      steps = length v.entries;
      last = last_table (trace_of v) (length v.entries);
      buckets = tabulate bucket_count (bucket_after v.head.rows (trace_of v) (length v.entries));
      cost = record { 0 = ref_cost (trace_of v) };
      volume = ref_volume (trace_of v);
    }

-- no segments, no rows and no warm segments: what a refused start hands back
unfoldable pub empty_recorder : Recorder
empty_recorder = record { head = empty_head; steps = 0; last = start_table []; buckets = all_empty; cost = record { 0 = 0 }; volume = 0 }

-- the form and the head of a sheet, its warm segments among it, with no steps. A recorder takes forms 1 to 3, which have no marks
abbrev pub started : SheetValue → SheetValue
started v = record { form = v.form; head = v.head; entries = []; marks = [] }

-- a sheet's value with the references xs after its own
abbrev pub appended : SheetValue → List ℕ → SheetValue
appended v xs = record { form = v.form; head = v.head; entries = v.entries ++ xs; marks = [] }

-- one reference more
abbrev pub taken : SheetValue → ℕ → SheetValue
taken v x = appended v (x ∷ [])

-- one idle step more: form 1 has none, so the form is then 2 or more
abbrev pub with_idle : SheetValue → SheetValue
with_idle v = record { form = max 2 v.form; head = v.head; entries = v.entries ++ (idle ∷ []); marks = [] }

-- a recorder with one step more, and all else as it was
abbrev pub with_step : Recorder → Recorder
with_step R =
    record { head = R.head; steps = R.steps + 1; last = R.last; buckets = R.buckets; cost = R.cost; volume = R.volume }

-- the verdict on an idle step after `count` steps: 13 where there are 2,048
abbrev pub room_verdict : ℕ → Result (Unit {0}) Refusal
room_verdict count = cond (ltb count most_steps) (Ok tt) (Err RecorderFull)

-- the verdict on a reference x after `count` steps: 4 for a segment not below segs, then 13 where there are 2,048
abbrev pub ref_verdict : ℕ → ℕ → ℕ → Result (Unit {0}) Refusal
ref_verdict segs count x = cond (ltb x segs) (room_verdict count) (Err OutOfRange)

-- the verdict of the first of the references xs that would be refused, each being asked after those before it
unfoldable pub refs_verdict : ℕ → ℕ → List ℕ → Result (Unit {0}) Refusal
refs_verdict segs count [] = Ok tt
refs_verdict segs count (x ∷ xs) =
    elim (ref_verdict segs count x) [
      | Ok _ ↦ refs_verdict segs (suc count) xs
      | Err why ↦ Err why
    ]

-- the verdicts of a recorder on one reference, on several, and on an idle step
abbrev pub touch_verdict : Recorder → ℕ → Result (Unit {0}) Refusal
touch_verdict R x = ref_verdict (min R.head.segs most_segs) R.steps x

abbrev pub touch_all_verdict : Recorder → List ℕ → Result (Unit {0}) Refusal
touch_all_verdict R xs = refs_verdict (min R.head.segs most_segs) R.steps xs

abbrev pub idle_verdict : Recorder → Result (Unit {0}) Refusal
idle_verdict R = room_verdict R.steps

-- what a touch answers
pub record Touched (R : Recorder) (x : ℕ) (r : TouchAnswer) : Type 0 where
  pub verdict_is : r.verdict ≡ touch_verdict R x
  -- refused, the recorder comes back as it was
  pub unchanged : (why : Refusal) → r.verdict ≡ Err why → r.recorder ≡ R
  -- a recorder that stands for a sheet stands for one reference more
  pub stands : (v : SheetValue) → Valid v → R ≡ recorder_of v → r.verdict ≡ (Ok tt) → r.recorder ≡ recorder_of (taken v x)

-- what taking several references answers: all of them or none
pub record TouchedAll (R : Recorder) (xs : List ℕ) (r : TouchAnswer) : Type 0 where
  pub verdict_is : r.verdict ≡ touch_all_verdict R xs
  -- refused, the recorder comes back as it was; so it does where there is no reference
  pub unchanged : (why : Refusal) → r.verdict ≡ Err why → r.recorder ≡ R
  pub nothing : xs ≡ [] → r.recorder ≡ R
  -- a recorder that stands for a sheet stands for the sheet with all of them
  pub stands : (v : SheetValue) → Valid v → R ≡ recorder_of v → r.verdict ≡ (Ok tt) → r.recorder ≡ recorder_of (appended v xs)

-- what an idle step answers
pub record Rested (R : Recorder) (r : TouchAnswer) : Type 0 where
  pub verdict_is : r.verdict ≡ idle_verdict R
  -- refused, the recorder comes back as it was
  pub unchanged : (why : Refusal) → r.verdict ≡ Err why → r.recorder ≡ R
  -- accepted, it has one step more and all else as it was, also where it was put together by hand
  pub counted : r.verdict ≡ (Ok tt) → r.recorder ≡ with_step R
  -- a recorder that stands for a sheet stands for one idle step more
  pub stands : (v : SheetValue) → Valid v → R ≡ recorder_of v → r.verdict ≡ (Ok tt) → r.recorder ≡ recorder_of (with_idle v)

-- touching one by one a recorder that stands for a sheet: the answer of the first touch that is refused, or of the last
unfoldable pub one_by_one : SheetValue → List ℕ → TouchAnswer
one_by_one v [] = record { verdict = (Ok tt); recorder = recorder_of v }
one_by_one v (x ∷ xs) =
    elim (touch_verdict (recorder_of v) x) [
      | Ok _ ↦ one_by_one (taken v x) xs
      | Err why ↦ record { verdict = Err why; recorder = recorder_of v }
    ]

-- what reading the figures of a row answers
pub record Figured (R : Recorder) (row : ℕ) (r : Result RowFigures Refusal) : Type 0 where
  pub verdict_is : is_ok r ≡ ltb row (min R.head.rows most_rows)
  -- refused, there are no figures
  pub refused_is : (why : Refusal) → r ≡ Err why → why ≡ NoSuchRow
  -- the figures of a recorder that stands for a sheet are those of the sheet ending there
  pub stands : (v : SheetValue) → Valid v → R ≡ recorder_of v → r ≡ figures_of v row
