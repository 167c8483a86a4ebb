-- What the recorder's inner functions give: the start from a head, and the pass that goes on.
use Rattle.std.specs.Prelude.{ℕ, ◌≡◌, List, length}
use Rattle.model.specs.LastTouches.{start_table}
use Rattle.model.specs.Sheets.{SheetValue, RowsWithin, RunWithin, trace_of}
use Rattle.model.specs.Values.{head_of}
use Rattle.model.specs.declared.Head.{Head}
use Rattle.buckets.specs.Buckets.{all_empty}
use Rattle.buckets.specs.inner.Pass.{passed_of}
use Rattle.buckets.specs.declared.pass.Passed.{Passed}
use Rattle.recorder.specs.inner.Heads.{head_warm}
use Rattle.recorder.specs.Recorders.{appended}
use Rattle.recorder.specs.declared.Recorder.{Recorder}

-- a recorder with a head and no step taken yet: the warm segments count as touched
abbrev pub begun : Head → Recorder
begun head = record {
  head = head;
  steps = 0;
  last = start_table (head_warm head);
  buckets = all_empty;
  cost = record { 0 = 0 };
  volume = 0;
}

-- r is what the pass has after a sheet with the references xs more, where p is what it has after the sheet's own n
abbrev pub Continued : Head → Passed → ℕ → List ℕ → Passed → Type 0
Continued head p n xs r =
    (v : SheetValue) → RowsWithin v.head.rows → RunWithin (trace_of (appended v xs)) → head ≡ head_of v.head → length v.entries ≡ n
    → p ≡ passed_of v.head.rows (trace_of v) → r ≡ passed_of v.head.rows (trace_of (appended v xs))
