-- More steps, as the code takes them: a recorder that stands for a sheet then stands for the sheet with those references, or with one
-- idle step.
use Prim.Native.Nat.{ℕ, ◌-◌, ◌+◌, ◌^◌, ◌≤◌, ◌<◌, min}
use mathlib.Core.Path.{◌≡◌, refl, sym, ap, ◌∙◌}
use mathlib.Core.List.{List, [], ◌∷◌, ◌++◌}
use native.Mathlib.Omega.{arith}
use lib.ListN.{length, get_or, take, set, length-append, get_or-append}
use borrow.Author.Tests.{lt-ltb, le-ltb}
use Rattle.model.specs.Costs.{unit_cost}
use Rattle.model.specs.Figures.{ref_cost, ref_volume}
use Rattle.model.specs.Traces.{segs, steps}
use Rattle.model.specs.Sheets.{SheetValue, RowsWithin, RunWithin, Valid, trace_of, idle, most_segs, most_rows, most_steps}
use Rattle.model.proofs.Growth.{with_refs, grown, grown-agree, cost-grown, volume-grown, steps-grown, entry-grown}
use Rattle.model.specs.Values.{zeros, zero_rows, head_of}
use Rattle.model.specs.declared.Head.{Head}
use Rattle.model.proofs.Bounds.{unit-within}
use Rattle.buckets.specs.inner.Pass.{touch_of, Limited, Within, with_touch, PassedOn, passed_after, passed_of}
use Rattle.buckets.specs.inner.Search.{time_since, prices_of}
use Rattle.buckets.specs.declared.search.Prices.{Prices}
use Rattle.buckets.specs.Buckets.{bucket_count, tally_of, no_bucket}
use Rattle.figures.specs.inner.Sweep.{summed, Tallied}
use Rattle.figures.specs.inner.OneRow.{by_kind, Holds}
use Rattle.buckets.specs.declared.Tally.{Tally}
use Rattle.figures.proofs.Sweeping.{tallied-buckets, tallied-cost, tallied-volume}
use Rattle.buckets.specs.declared.Bucket.{Bucket}
use Rattle.buckets.specs.declared.pass.Touch.{Touch}
use Rattle.buckets.specs.declared.pass.Passed.{Passed}
use Rattle.figures.proofs.Limits.{cost_within, volume_within}
use Rattle.buckets.proofs.Passing.{pass_step, pass-idle, passed-agree}
use Rattle.recorder.specs.inner.Passes.{Continued}
use Rattle.recorder.specs.Recorders.{recorder_of, appended, taken, with_idle, with_step}
use Rattle.recorder.specs.declared.Recorder.{Recorder}
use Rattle.recorder.proofs.Standing.{front, padded-at, head_rows, standing, standing-roomy, taken-run, recorder-passed}

-- N is the recorder R with one more reference, to segment x: a touch, its bucket, Q and V as the code makes them
pub record Stepped (R : Recorder) (x : ℕ) (N : Recorder) : Type 0 where
  pub count : ℕ
  pub touch : Touch
  pub bucket : Bucket
  pub unit : ℕ
  pub cost : ℕ
  pub volume : ℕ
  pub count_is : count ≡ min R.head.rows most_rows
  pub limited : Limited touch
  pub touch_is : RowsWithin (take count R.head.prices)
      → touch ≡ touch_of R.head.kind R.head.a (take count R.head.prices) (get_or R.head.sizes x 0)
      (time_since R.steps (get_or R.last x 0))
  pub bucket_is : Within (get_or R.buckets touch.bucket no_bucket) (2 ^ 60)
      → bucket ≡ with_touch (get_or R.buckets touch.bucket no_bucket) touch
  pub unit_is : unit ≡ unit_cost R.head.kind (get_or R.head.sizes x 0)
  pub cost_is : R.cost.0 ≤ 2 ^ 60 → unit ≤ 2 ^ 60 → cost ≡ R.cost.0 + unit
  pub volume_is : R.volume ≤ 2 ^ 60 → get_or R.head.sizes x 0 ≤ 2 ^ 60 → volume ≡ R.volume + get_or R.head.sizes x 0
  pub next_is : N ≡ record {
    head = R.head;
    steps = R.steps + 1;
    last = set R.last x (R.steps + 1);
    buckets = set R.buckets touch.bucket bucket;
    cost = record { 0 = cost };
    volume = volume;
  }

-- a step of the code from the recorder of v
stepped-of : (v : SheetValue) → Valid v → (x : ℕ) → x < length v.head.sizes → length v.entries < most_steps
    → (N : Recorder) → Stepped (recorder_of v) x N → N ≡ recorder_of (taken v x)
unfolding recorder_of head_of
stepped-of v valid x lt room N s =
    let T = trace_of v in
    let n = length v.entries in
    let rows = v.head.rows in
    let sizes = v.head.sizes in
    let run = valid.run in
    let at = front rows (zero_rows most_rows) s.count most_rows valid.rows.rows_within s.count_is in
    let size = padded-at sizes (zeros most_segs) x 0 lt in
    let small = run.size_within x lt in
    let y-is = rw (at, size) at (s.touch_is (rw at valid.rows)) in
    let b-is = s.bucket_is ((standing-roomy v valid).each s.touch.bucket s.limited.is_bucket) in
    let unit_is = rw size at s.unit_is in
    let unit-small = unit-within v.head.kind (get_or sizes x 0) (2 ^ 16 - 1) (omega arith) (omega (arith, small)) in
    let cost_is = s.cost_is (omega (arith, cost_within T run)) (omega (arith, unit-small)) in
    let volume_is = rw size at (s.volume_is (omega (arith, volume_within T run)) (rw size (omega arith))) in
    let end : n + 1 ≡ steps (grown T x) = omega (arith, steps-grown T x) in
    let all : passed_after rows (grown T x) (n + 1) ≡ passed_of rows (grown T x) = ap (passed_after rows (grown T x)) end in
    let passed =
    pass_step rows (grown T x) n (recorder_of v).buckets (recorder_of v).last
    (standing v ∙ passed-agree rows T (v.entries ++ (x ∷ [])) n (grown-agree T x)) (taken-run v valid x lt room)
    (omega (arith, steps-grown T x)) x (entry-grown T x) lt s.touch s.limited y-is s.bucket b-is in
    s.next_is
    ∙ recorder-passed (taken v x) (n + 1) end (set (recorder_of v).buckets s.touch.bucket s.bucket)
    (set (recorder_of v).last x (n + 1)) s.cost s.volume (passed ∙ all)
    (cost_is ∙ ap (λ u. ref_cost T + u) unit_is ∙ sym (rw (lt-ltb x (segs T) lt) at (cost-grown T x)))
    (volume_is ∙ sym (rw (lt-ltb x (segs T) lt) at (volume-grown T x)))

-- from any recorder that stands for v
pub stepped-stands : (R N : Recorder) (x : ℕ) → x < min R.head.segs most_segs → R.steps < most_steps → Stepped R x N
    → (v : SheetValue) → Valid v → R ≡ recorder_of v → N ≡ recorder_of (taken v x)
unfolding recorder_of head_of
stepped-stands R N x lt room s v valid e =
    stepped-of v valid x (omega (arith, ap (λ (Q : Recorder). Q.head.segs) e)) (omega (arith, ap (λ (Q : Recorder). Q.steps) e)) N
    (rw e at s)

-- an idle step from the recorder of v: the table, the buckets, Q and V are what they were
rested-of : (v : SheetValue) → Valid v → with_step (recorder_of v) ≡ recorder_of (with_idle v)
unfolding recorder_of
rested-of v valid =
    let T = trace_of v in
    let n = length v.entries in
    let rows = v.head.rows in
    let none : segs T ≤ idle = omega (arith, valid.run.segs_within) in
    let end : n + 1 ≡ steps (grown T idle) = omega (arith, steps-grown T idle) in
    let all : passed_after rows (grown T idle) (n + 1) ≡ passed_of rows (grown T idle) = ap (passed_after rows (grown T idle)) end in
    let passed =
    pass-idle rows (grown T idle) n (recorder_of v).buckets (recorder_of v).last
    (standing v ∙ passed-agree rows T (v.entries ++ (idle ∷ [])) n (grown-agree T idle)) (rw (entry-grown T idle) none) in
    let cost : ref_cost T ≡ ref_cost (grown T idle) = omega (arith, rw (le-ltb idle (segs T) none) at (cost-grown T idle)) in
    let volume : ref_volume T ≡ ref_volume (grown T idle) = omega (arith, rw (le-ltb idle (segs T) none) at (volume-grown T idle)) in
    recorder-passed (with_idle v) (n + 1) end (recorder_of v).buckets (recorder_of v).last (ref_cost T) (ref_volume T) (passed ∙ all) cost
    volume

-- from any recorder that stands for v
pub rested-stands : (R : Recorder) (v : SheetValue) → Valid v → R ≡ recorder_of v → with_step R ≡ recorder_of (with_idle v)
rested-stands R v valid e = rw e (rested-of v valid)

-- the pass goes on from what it has after a sheet
passed-of : (v : SheetValue) (rows segs : ℕ) (prices : Prices) (p : Passed) (n : ℕ) (xs : List ℕ) (r : Passed)
    → rows ≡ min (head_of v.head).rows most_rows → segs ≡ min (head_of v.head).segs most_segs
    → prices ≡ prices_of rows (take rows (head_of v.head).prices)
    → PassedOn (head_of v.head).kind (head_of v.head).a (take segs (head_of v.head).sizes) prices n xs p r
    → RowsWithin v.head.rows → RunWithin (trace_of (appended v xs)) → length v.entries ≡ n → p ≡ passed_of v.head.rows (trace_of v)
    → r ≡ passed_of v.head.rows (trace_of (appended v xs))
unfolding head_of
passed-of v rows segs prices p n xs r rows_are segs_are priced on up run all is =
    let T = trace_of v in
    let U = with_refs T (v.entries ++ xs) in
    let sizes = front v.head.sizes (zeros most_segs) segs most_segs run.segs_within segs_are in
    (rw sizes at on) v.head.rows (head_rows v.head up rows rows_are prices priced) v.head.warm v.entries all run
    (rw (← all) (is ∙ passed-agree v.head.rows T (v.entries ++ xs) (length v.entries)
    (λ t lt. get_or-append v.entries xs (length v.head.sizes) t lt)))

pub passed_on : (head : Head) (rows segs : ℕ) (prices : Prices) (p : Passed) (n : ℕ) (xs : List ℕ) (r : Passed)
    → rows ≡ min head.rows most_rows → segs ≡ min head.segs most_segs
    → prices ≡ prices_of rows (take rows head.prices)
    → PassedOn head.kind head.a (take segs head.sizes) prices n xs p r → Continued head p n xs r
passed_on head rows segs prices p n xs r rows_are segs_are priced on v up run e =
    passed-of v rows segs prices p n xs r (rw e at rows_are) (rw e at segs_are) (rw e at priced) (rw e at on) up run

-- several references, as the code takes them from the recorder of v: Q and V are sums of the buckets
taken_of : (v : SheetValue) (xs : List ℕ) → RowsWithin v.head.rows → RunWithin (trace_of (appended v xs))
    → (p : Passed) (all : Bucket) (cost : ℕ)
    → Continued (recorder_of v).head (record { buckets = (recorder_of v).buckets; last = (recorder_of v).last }) (recorder_of v).steps xs p
    → (((m : ℕ) → m ≤ bucket_count → Holds most_steps (summed p.buckets m)) → all ≡ summed p.buckets bucket_count)
    → cost ≡ by_kind (recorder_of v).head.kind all.count all.volume
    → record {
      head = (recorder_of v).head;
      steps = (recorder_of v).steps + length xs;
      last = p.last;
      buckets = p.buckets;
      cost = record { 0 = cost };
      volume = all.volume;
    } ≡ recorder_of (appended v xs)
unfolding recorder_of head_of tally_of passed_after
taken_of v xs up run p all cost on all_is cost_is =
    let rows = v.head.rows in
    let T = trace_of (appended v xs) in
    let passed = on v up run refl refl (standing v) in
    let tally : Tally = record { buckets = p.buckets; ends = (tally_of rows T).ends } in
    let given : Tallied rows T tally =
    record { rows_ok = up; run_ok = run; is_tally = rw (ap (λ (q : Passed). q.buckets) passed) refl } in
    let sums = all_is (tallied-buckets rows T tally given) in
    recorder-passed (appended v xs) (length v.entries + length xs) (sym (length-append v.entries xs)) p.buckets p.last cost
    all.volume passed (cost_is ∙ tallied-cost rows T tally given sums) (tallied-volume rows T tally given sums)

-- from any recorder that stands for v
pub taken-stands : (R : Recorder) (xs : List ℕ) (p : Passed) (all : Bucket) (cost : ℕ)
    → Continued R.head (record { buckets = R.buckets; last = R.last }) R.steps xs p
    → (((m : ℕ) → m ≤ bucket_count → Holds most_steps (summed p.buckets m)) → all ≡ summed p.buckets bucket_count)
    → cost ≡ by_kind R.head.kind all.count all.volume
    → (v : SheetValue) → RowsWithin v.head.rows → RunWithin (trace_of (appended v xs)) → R ≡ recorder_of v
    → record {
      head = R.head;
      steps = R.steps + length xs;
      last = p.last;
      buckets = p.buckets;
      cost = record { 0 = cost };
      volume = all.volume;
    } ≡ recorder_of (appended v xs)
taken-stands R xs p all cost on all_is cost_is v up run e =
    rw e (taken_of v xs up run p all cost (rw e at on) all_is (rw e at cost_is))
