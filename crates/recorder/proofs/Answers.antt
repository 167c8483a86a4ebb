-- What the calls of a recorder answer: each answer meets its contract.
use Rattle.std.specs.Prelude.{Ok, Err}
use Prim.Native.Nat.{ℕ, ◌≤◌, ◌<◌, min}
use mathlib.Core.Path.{◌≡◌, refl, sym, ap}
use mathlib.Core.Bool.{Bool, true, false, cond}
use mathlib.Core.List.{List, []}
use native.Mathlib.Omega.{arith}
use lib.ListN.{length}
use lib.Dec.{ltb}
use borrow.Author.Tests.{lt-ltb, le-ltb, ltb-true, ltb-false}
use Rattle.model.specs.Sheets.{SheetValue, Valid, trace_of, most_segs, most_rows, most_steps}
use Rattle.model.specs.Figures.{ref_cost, ref_volume}
use Rattle.model.specs.Traces.{unit_of, size_of, touching}
use Rattle.model.proofs.Sums.{sum-none}
use Rattle.model.specs.declared.RowFigures.{RowFigures}
use Rattle.model.specs.declared.Refusal.{Refusal}
use Rattle.model.specs.declared.Refusal.TheVariants.{OutOfRange, NoSuchRow, RecorderFull}
use Rattle.model.specs.Values.{zeros, head_of, sheet_of}
use Rattle.model.specs.declared.Sheet.{Sheet}
use Rattle.buckets.specs.Buckets.{all_empty}
use Rattle.model.specs.LastTouches.{start_table}
use Rattle.model.specs.RowAnswers.{figures_at, figures_of}
use Rattle.buckets.proofs.Passing.{pass_start}
use Rattle.recorder.specs.Recorders.{recorder_of, started, appended, taken, with_step, room_verdict, ref_verdict}
use Rattle.recorder.specs.Recorders.{touch_verdict, touch_all_verdict}
use Rattle.recorder.specs.Recorders.{idle_verdict}
use Rattle.recorder.specs.Recorders.{Touched, TouchedAll, Rested, Figured}
use Rattle.recorder.specs.inner.Passes.{begun}
use Rattle.recorder.specs.declared.Recorder.{Recorder}
use Rattle.recorder.proofs.Standing.{front, few-warm, recorder-passed}
use Rattle.recorder.proofs.Stepping.{rested-stands}

-- an answer is not both
pub refused-accepted : {A : Type 0} (why : Refusal) → Err why ≡ (Ok (tt {0})) → A
refused-accepted why e = let z : ◌≡◌ {A = ℕ} 0 1 = cc in absurd (omega arith)

-- after `count` steps there is room for one where the verdict on it accepts, and none where it refuses
pub step_room : (count : ℕ) → room_verdict count ≡ (Ok (tt {0})) → count < most_steps
step_room count = go (ltb count most_steps) refl
  where
    go : (b : Bool) → ltb count most_steps ≡ b → cond b (Ok (tt {0})) (Err RecorderFull) ≡ (Ok (tt {0})) → count < most_steps
    go true t a = ltb-true count most_steps t
    go false t a = refused-accepted RecorderFull a

pub step-full : (count : ℕ) (why : Refusal) → room_verdict count ≡ Err why → most_steps ≤ count
step-full count why = go (ltb count most_steps) refl
  where
    go : (b : Bool) → ltb count most_steps ≡ b → cond b (Ok (tt {0})) (Err RecorderFull) ≡ Err why → most_steps ≤ count
    go true t a = refused-accepted why (sym a)
    go false t a = ltb-false count most_steps t

-- and a reference that is accepted is a segment
pub ref-room : (segs count x : ℕ) → ref_verdict segs count x ≡ (Ok (tt {0})) → (x < segs) × (count < most_steps)
ref-room segs count x = go (ltb x segs) refl
  where
    go : (b : Bool) → ltb x segs ≡ b → cond b (room_verdict count) (Err OutOfRange) ≡ (Ok (tt {0})) → (x < segs) × (count < most_steps)
    go true e a = (ltb-true x segs e, step_room count a)
    go false e a = refused-accepted OutOfRange a

-- a start: the warm segments count as touched
begun-stands : (v : SheetValue) → Valid v → begun (head_of v.head) ≡ recorder_of (started v)
unfolding head_of ref_cost ref_volume
begun-stands v valid =
    let T = trace_of (started v) in
    let warm = v.head.warm in
    rw (front warm (zeros most_segs) (min (length warm) most_segs) most_segs (few-warm v valid) refl)
    (recorder-passed (started v) 0 refl all_empty (start_table warm) 0 0
    (pass_start v.head.rows T warm (λ i. refl) all_empty (start_table warm) refl refl)
    (sym (sum-none (touching T (λ t i. unit_of T i)))) (sym (sum-none (touching T (λ t i. size_of T i)))))

pub start-stands : (v : SheetValue) → Valid v → (sheet : Sheet) → sheet ≡ sheet_of v → begun sheet.head ≡ recorder_of (started v)
unfolding sheet_of
start-stands v valid sheet e = rw e (begun-stands v valid)

-- a reference, refused or taken
module _ (R : Recorder) (x : ℕ) where
  pub one-refused : (why : Refusal) → touch_verdict R x ≡ Err why → Touched R x (record { verdict = Err why; recorder = R })
  one-refused why e =
      record {
        verdict_is = sym e;
        unchanged = λ w f. refl;
        stands = λ v valid f a. refused-accepted why a;
      }

  pub one-taken : (N : Recorder) → touch_verdict R x ≡ (Ok (tt {0}))
      → ((v : SheetValue) → Valid v → R ≡ recorder_of v → N ≡ recorder_of (taken v x))
      → Touched R x (record { verdict = (Ok (tt {0})); recorder = N })
  one-taken N e next =
      record {
        verdict_is = sym e;
        unchanged = λ why f. refused-accepted why (sym f);
        stands = λ v valid f a. next v valid f;
      }

-- several references, refused or taken
module _ (R : Recorder) (xs : List ℕ) where
  pub all-refused : (why : Refusal) → touch_all_verdict R xs ≡ Err why
      → TouchedAll R xs (record { verdict = Err why; recorder = R })
  all-refused why e =
      record {
        verdict_is = sym e;
        unchanged = λ w f. refl;
        nothing = λ none. refl;
        stands = λ v valid f a. refused-accepted why a;
      }

  pub all-accepted : (N : Recorder) → touch_all_verdict R xs ≡ (Ok (tt {0})) → (xs ≡ [] → N ≡ R)
      → ((v : SheetValue) → Valid v → R ≡ recorder_of v → N ≡ recorder_of (appended v xs))
      → TouchedAll R xs (record { verdict = (Ok (tt {0})); recorder = N })
  all-accepted N e none next =
      record {
        verdict_is = sym e;
        unchanged = λ why f. refused-accepted why (sym f);
        nothing = none;
        stands = λ v valid f a. next v valid f;
      }

-- an idle step, refused or taken
module _ (R : Recorder) where
  pub idle-refused : (why : Refusal) → idle_verdict R ≡ Err why → Rested R (record { verdict = Err why; recorder = R })
  idle-refused why e =
      record {
        verdict_is = sym e;
        unchanged = λ w f. refl;
        counted = λ a. refused-accepted why a;
        stands = λ v valid f a. refused-accepted why a;
      }

  pub idle-accepted : idle_verdict R ≡ (Ok (tt {0})) → Rested R (record { verdict = (Ok (tt {0})); recorder = with_step R })
  idle-accepted e =
      record {
        verdict_is = sym e;
        unchanged = λ why f. refused-accepted why (sym f);
        counted = λ a. refl;
        stands = λ v valid f a. rested-stands R v valid f;
      }

-- the rows of a recorder that stands for a sheet
rows_are : (R : Recorder) (v : SheetValue) → R ≡ recorder_of v → R.head.rows ≡ length v.head.rows
unfolding recorder_of head_of
rows_are R v e = ap (λ (Q : Recorder). Q.head.rows) e

pub no-such-row : (R : Recorder) (row : ℕ) → min R.head.rows most_rows ≤ row → Figured R row (Err NoSuchRow)
unfolding figures_of
no-such-row R row le =
    record {
      verdict_is = rw (le-ltb row (min R.head.rows most_rows) le) refl;
      refused_is = λ why e. cc;
      stands = λ v valid e. rw (le-ltb row (length v.head.rows) (omega (arith, rows_are R v e, valid.rows.rows_within))) refl;
    }

pub figured : (R : Recorder) (row : ℕ) (f : RowFigures) → row < min R.head.rows most_rows
    → ((v : SheetValue) → Valid v → R ≡ recorder_of v → f ≡ figures_at v row)
    → Figured R row (Ok f)
unfolding figures_of
figured R row f lt figures =
    record {
      verdict_is = rw (lt-ltb row (min R.head.rows most_rows) lt) refl;
      refused_is = λ why e. absurd cc;
      stands = λ v valid e. rw (lt-ltb row (length v.head.rows) (omega (arith, rows_are R v e)), figures v valid e) refl;
    }
