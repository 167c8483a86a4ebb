-- The recorder's theorem, for every recorder that a start and the calls after it handed back.
use Rattle.std.specs.Prelude.{Result, Ok, Err}
use Rattle.model.specs.declared.RowFigures.{RowFigures}
use Prim.Native.Nat.{ℕ, ◌+◌, ◌≤◌, min, max}
use mathlib.Core.Path.{◌≡◌, refl, sym, ap, subst, ◌∙◌}
use mathlib.Core.List.{List, [], ◌∷◌, ◌++◌, append-nil}
use native.Mathlib.Omega.{arith}
use borrow.Author.Tests.{le-ltb}
use lib.ListN.{length, length-append}
use Rattle.model.specs.Sheets.{SheetValue, Valid, idle, most_segs}
use Rattle.model.specs.Values.{empty_head}
use Rattle.model.specs.declared.Refusal.{Refusal}
use Rattle.model.specs.declared.Refusal.TheVariants.{OutOfRange}
use Rattle.sheet.specs.Reading.{Outcome, accepted, rejected, read_forms}
use Rattle.sheet.proofs.Accepted.{accepted-valid, accepted-form}
use Rattle.model.specs.RowAnswers.{figures_of}
use Rattle.recorder.specs.Recorders.{recorder_of, empty_recorder, started, with_idle, with_step, touch_verdict, refs_verdict}
use Rattle.recorder.specs.Recorders.{TouchedAll, Rested, Figured}
use Rattle.recorder.specs.declared.Recorder.{Recorder}
use Rattle.recorder.specs.declared.TouchAnswer.{TouchAnswer}
use Rattle.recorder.proofs.Bulk.{takable-is, all_valid, one-accepted}
use Rattle.recorder.proofs.Recorded.{counts_are}
use Rattle.recorder.proofs.Standing.{started-valid, later-valid, rested-valid, idle-room}
use Rattle.analyser.specs.Recording.{start_answer, taken_of, Handed, begun, touched, touched-all, idled, recorded_of, empty_after}
use Rattle.analyser.specs.Recording.{Recorded}

-- a recorder that stands for a valid sheet
record Stands (v : SheetValue) (R : Recorder) : Type 0 where
  valid : Valid v
  stands : R ≡ recorder_of v

-- the recorder does not look at the form
form-aside : (v : SheetValue) → recorder_of (recorded_of v v.entries) ≡ recorder_of v
unfolding recorder_of
form-aside v = refl

-- a call on a recorder that stands for a sheet: afterwards it stands for the sheet with what was taken
module _ (v : SheetValue) (taken xs : List ℕ) (R N : Recorder) (before : Stands (recorded_of v taken) R) where
  call-stands : (w : Result (Unit {0}) Refusal) → (w ≡ (Ok tt) → Valid (recorded_of v (taken ++ xs)))
      → (w ≡ (Ok tt) → N ≡ recorder_of (recorded_of v (taken ++ xs))) → ((why : Refusal) → w ≡ Err why → N ≡ R)
      → Stands (recorded_of v (taken ++ taken_of w xs)) N
  call-stands (Ok tt) valid next unchanged = record { valid = valid refl; stands = next refl }
  call-stands (Err why) valid next unchanged = rw (append-nil taken, unchanged why refl) before

-- one idle step more keeps the form
rested-is : (v : SheetValue) (taken : List ℕ) → with_idle (recorded_of v taken) ≡ recorded_of v (taken ++ (idle ∷ []))
rested-is v taken =
    let e : max 2 (max 2 v.form) ≡ max 2 v.form = omega arith in
    ap (λ (f : ℕ). record { form = f; head = v.head; entries = taken ++ (idle ∷ []); marks = [] }) e

-- the sheet that ends at the steps taken is of form 2 or 3
recorded-early : (s : List ℕ) (v : SheetValue) (taken : List ℕ) → read_forms 1 3 s ≡ accepted v → (recorded_of v taken).form ≤ 3
recorded-early s v taken e = omega (arith, (accepted-form 1 3 (omega arith) s v e).1)

-- where the start was accepted
handed-stands : {s taken : List ℕ} {R : Recorder} → Handed s taken R → (v : SheetValue) → read_forms 1 3 s ≡ accepted v
    → Stands (recorded_of v taken) R
unfolding start_answer
handed-stands {s} begun v e =
    let c = accepted-valid 1 3 (omega arith) s v e in
    record {
      valid = later-valid (started v) (started-valid v c) (accepted-form 1 3 (omega arith) s v e).1;
      stands = rw e (sym (form-aside (started v)));
    }
handed-stands {s} (touched {taken} {R} before x r t) v e =
    let b = handed-stands before v e in
    call-stands v taken (x ∷ []) R r.recorder b r.verdict
    (λ a. all_valid R (x ∷ []) (one-accepted R x (sym t.verdict_is ∙ a)) (recorded_of v taken) b.valid b.stands
    (recorded-early s v taken e))
    (λ a. t.stands (recorded_of v taken) b.valid b.stands a)
    t.unchanged
handed-stands {s} (touched-all {taken} {R} before xs r t) v e =
    let b = handed-stands before v e in
    call-stands v taken xs R r.recorder b r.verdict
    (λ a. all_valid R xs (sym t.verdict_is ∙ a) (recorded_of v taken) b.valid b.stands (recorded-early s v taken e))
    (λ a. t.stands (recorded_of v taken) b.valid b.stands a)
    t.unchanged
handed-stands {s} (idled {taken} {R} before r t) v e =
    let b = handed-stands before v e in
    call-stands v taken (idle ∷ []) R r.recorder b r.verdict
    (λ a. subst Valid (rested-is v taken)
    (rested-valid (recorded_of v taken) b.valid (recorded-early s v taken e)
    (idle-room R (recorded_of v taken) b.stands (sym t.verdict_is ∙ a))))
    (λ a. t.stands (recorded_of v taken) b.valid b.stands a ∙ ap recorder_of (rested-is v taken))
    t.unchanged

-- ---- where it was refused: no segment, and idle steps alone

record IsEmpty (taken : List ℕ) (R : Recorder) : Type 0 where
  empty : R ≡ empty_after (length taken)

module _ (taken : List ℕ) (R : Recorder) (before : IsEmpty taken R) where
  refused_empty : (xs : List ℕ) (r : TouchAnswer) (why : Refusal) → r.verdict ≡ Err why → r.recorder ≡ R
      → IsEmpty (taken ++ taken_of r.verdict xs) r.recorder
  refused_empty xs r why f same = record { empty = rw (f, append-nil taken) (same ∙ before.empty) }

  no_segs : R.head.segs ≡ 0
  unfolding empty_recorder empty_head
  no_segs = ap (λ (Q : Recorder). Q.head.segs) before.empty

  touch_empty : (x : ℕ) → touch_verdict R x ≡ Err OutOfRange
  touch_empty x = rw (no_segs, le-ltb x 0 (omega arith)) refl

  all-empty : (xs : List ℕ) (r : TouchAnswer) → TouchedAll R xs r → IsEmpty (taken ++ taken_of r.verdict xs) r.recorder
  unfolding refs_verdict
  all-empty [] r t = record { empty = rw (t.verdict_is, append-nil taken) (t.nothing refl ∙ before.empty) }
  all-empty (x ∷ xs) r t = go r.verdict refl
    where
      go : (w : Result (Unit {0}) Refusal) → r.verdict ≡ w → IsEmpty (taken ++ taken_of r.verdict (x ∷ xs)) r.recorder
      go (Ok tt) a =
          let can = takable-is (min R.head.segs most_segs) R.steps (x ∷ xs) (sym t.verdict_is ∙ a) in
          absurd (omega (arith, can.segments 0 (omega arith), no_segs))
      go (Err why) f = refused_empty (x ∷ xs) r why f (t.unchanged why f)

  idle_empty : (r : TouchAnswer) → Rested R r → IsEmpty (taken ++ taken_of r.verdict (idle ∷ [])) r.recorder
  idle_empty r t = go r.verdict refl
    where
      go : (w : Result (Unit {0}) Refusal) → r.verdict ≡ w → IsEmpty (taken ++ taken_of r.verdict (idle ∷ [])) r.recorder
      go (Ok tt) a =
          let n : length (taken ++ (idle ∷ [])) ≡ length taken + 1 = length-append taken (idle ∷ []) in
          record { empty = rw (a, n) (t.counted a ∙ ap with_step before.empty) }
      go (Err why) f = refused_empty (idle ∷ []) r why f (t.unchanged why f)

handed-empty : {s taken : List ℕ} {R : Recorder} → Handed s taken R → (why : Refusal) → read_forms 1 3 s ≡ rejected why → IsEmpty taken R
unfolding start_answer empty_recorder
handed-empty begun why e = record { empty = rw e refl }
handed-empty (touched {taken} {R} before x r t) why e =
    let f = t.verdict_is ∙ touch_empty taken R (handed-empty before why e) x in
    refused_empty taken R (handed-empty before why e) (x ∷ []) r OutOfRange f (t.unchanged OutOfRange f)
handed-empty (touched-all {taken} {R} before xs r t) why e = all-empty taken R (handed-empty before why e) xs r t
handed-empty (idled {taken} {R} before r t) why e = idle_empty taken R (handed-empty before why e) r t

-- the steps that were counted
steps_of : (v : SheetValue) → (recorder_of v).steps ≡ length v.entries
unfolding recorder_of
steps_of v = refl

handed-counted : {s taken : List ℕ} {R : Recorder} → Handed s taken R → (o : Outcome) → read_forms 1 3 s ≡ o → R.steps ≡ length taken
handed-counted {s} {taken} {R} h (accepted v) e = ap (λ (Q : Recorder). Q.steps) (handed-stands h v e).stands
    ∙ steps_of (recorded_of v taken)
handed-counted {s} {taken} {R} h (rejected why) e = ap (λ (Q : Recorder). Q.steps) (handed-empty h why e).empty

-- the theorem
pub handed-recorded : {s taken : List ℕ} {R : Recorder} → Handed s taken R → Recorded s taken R
handed-recorded {s} {taken} {R} h =
    record {
      valid = λ v e. (handed-stands h v e).valid;
      stands = λ v e. (handed-stands h v e).stands;
      empty = λ why e. (handed-empty h why e).empty;
      counts_steps = handed-counted h (read_forms 1 3 s) refl;
      counts_add_up = λ v e. let b = handed-stands h v e in rw b.stands (counts_are (recorded_of v taken) b.valid);
      figures = λ v e row r f. let b = handed-stands h v e in f.stands (recorded_of v taken) b.valid b.stands;
    }

-- so a recorder that was started on a sheet's bytes and took the sheet's own steps stands for the sheet
pub sheet-recorded : {s : List ℕ} {R : Recorder} (v : SheetValue) → read_forms 1 3 s ≡ accepted v → Handed s v.entries R
    → (R ≡ recorder_of v) × ((row : ℕ) (r : Result RowFigures Refusal) → Figured R row r → r ≡ figures_of v row)
unfolding figures_of
sheet-recorded v e h = let all = handed-recorded h in (all.stands v e ∙ form-aside v, all.figures v e)
