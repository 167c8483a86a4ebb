-- The calls of the recorder in lists meet what their contracts say, accepted and refused.
use Rattle.std.specs.Prelude.{Result, Ok, Err}
use Rattle.model.specs.declared.RowFigures.{RowFigures}
use Prim.Native.Nat.{ℕ}
use mathlib.Core.Path.{◌≡◌, refl, ap, ◌∙◌}
use mathlib.Core.List.{List}
use Rattle.model.specs.Refusals.{number_of, verdict_number}
use Rattle.model.specs.Sheets.{SheetValue, Valid}
use Rattle.model.specs.declared.Refusal.{Refusal}
use Rattle.recorder.specs.Recorders.{recorder_of, appended, Figured}
use Rattle.recorder.specs.declared.Recorder.{Recorder}
use Rattle.recorder.specs.declared.TouchAnswer.{TouchAnswer}
use Rattle.analyser.specs.Recording.{start_answer}
use Rattle.c_lists.specs.Figures.{figure_list}
use Rattle.c_lists.specs.Recorders.{RecorderLists, lists, recorder_in, lists_of}
use Rattle.c_lists.specs.inner.Stored.{HeadStored, TakenStored}
use Rattle.c_lists.proofs.RecorderLists.{all-stored, taken-stored, recorder-again, taken-lists}
use Rattle.exports.specs.Recording.{StartCall, TouchCall, FiguresCall}

-- the number that is returned
accepted-number : {w : Result (Unit {0}) Refusal} → w ≡ Ok tt → ◌≡◌ {A = ℕ} 0 (verdict_number w)
accepted-number a = rw a refl

refused-number : {w : Result (Unit {0}) Refusal} {why : Refusal} {n : ℕ} → n ≡ number_of why → w ≡ Err why → n ≡ verdict_number w
refused-number e r = rw r e

module _ (s : List ℕ) (l : RecorderLists) (r : TouchAnswer) (is : r ≡ start_answer s) where
  pub start-accepted : (head counts sizes holds h d last sums : List ℕ) → r.verdict ≡ Ok tt
      → HeadStored r.recorder head sizes holds h d → TakenStored r.recorder counts last sums
      → StartCall s l (lists head counts sizes holds h d last sums) 0
  start-accepted head counts sizes holds h d last sums a stored kept =
      record {
        returned_is = rw (← is) (accepted-number a);
        lists_are = rw (← is, a) (all-stored r.recorder head counts sizes holds h d last sums stored kept);
      }

  pub start-refused : (why : Refusal) (n : ℕ) → r.verdict ≡ Err why → n ≡ number_of why → StartCall s l l n
  start-refused why n f e = record { returned_is = rw (← is) (refused-number e f); lists_are = rw (← is, f) refl }

-- one touch or several, by what the recorder in the lists answers
module _ (Answers : Recorder → TouchAnswer → Type 0) (head counts sizes holds h d last sums : List ℕ) (R : Recorder) (r : TouchAnswer)
    (is : R ≡ recorder_in (lists head counts sizes holds h d last sums)) (t : Answers R r) where
  pub touch-accepted : (counts' last' sums' : List ℕ) → r.verdict ≡ Ok tt → TakenStored r.recorder counts' last' sums'
      → TouchCall Answers (lists head counts sizes holds h d last sums) (lists head counts' sizes holds h d last' sums') 0
  touch-accepted counts' last' sums' a kept =
      record {
        answer = r;
        answered = rw is at t;
        returned_is = accepted-number a;
        lists_are = rw a (taken-stored r.recorder head counts sizes holds h d last sums counts' last' sums' kept);
      }

  pub touch-refused : (why : Refusal) (n : ℕ) → r.verdict ≡ Err why → n ≡ number_of why
      → TouchCall Answers (lists head counts sizes holds h d last sums) (lists head counts sizes holds h d last sums) n
  touch-refused why n f e =
      record { answer = r; answered = rw is at t; returned_is = refused-number e f; lists_are = rw f refl }

module _ (head counts sizes holds h d last sums : List ℕ) (row : ℕ) (out : List ℕ) (R : Recorder)
    (is : R ≡ recorder_in (lists head counts sizes holds h d last sums)) where
  pub figures_accepted : (f : RowFigures) → Figured R row (Ok f) → (out' : List ℕ) → out' ≡ figure_list f
      → FiguresCall (lists head counts sizes holds h d last sums) row out out' 0
  figures_accepted f g out' e = record { answer = Ok f; figured = rw is at g; returned_is = refl; out_is = e }

  pub figures-refused : (why : Refusal) → Figured R row (Err why) → (n : ℕ) → n ≡ number_of why
      → FiguresCall (lists head counts sizes holds h d last sums) row out out n
  figures-refused why g n e = record { answer = Err why; figured = rw is at g; returned_is = e; out_is = refl }

-- so lists of a recorder that stands for a sheet are, after an accepted call on the references xs, those of the sheet with them
module _ (Answers : Recorder → TouchAnswer → Type 0) (v : SheetValue) (valid : Valid v) (xs : List ℕ)
    (stands : (a : TouchAnswer) → Answers (recorder_of v) a → a.verdict ≡ Ok tt → a.recorder ≡ recorder_of (appended v xs)) where
  pub call-lists : (l l' : RecorderLists) (n : ℕ) → l ≡ lists_of (recorder_of v) → (c : TouchCall Answers l l' n)
      → c.answer.verdict ≡ Ok tt → l' ≡ lists_of (recorder_of (appended v xs))
  call-lists l l' n e c a =
      let held = ap recorder_in e ∙ recorder-again v valid in
      let next = stands c.answer (rw held at c.answered) a in
      c.lists_are ∙ rw (a, e, next) (taken-lists v xs)
