-- Touches and idle steps in any order: a recorder that stands for a sheet then stands for the sheet with those steps; and from a sheet's
-- head on the moves that it records are all accepted and lead to the sheet.
use Rattle.std.specs.Prelude.{Result, Ok, Err}
use Rattle.model.specs.declared.Refusal.{Refusal}
use Prim.Native.Nat.{ℕ, suc, ◌+◌, ◌≤◌, ◌<◌, min}
use mathlib.Core.Path.{◌≡◌, refl, sym, ap, ◌∙◌}
use mathlib.Core.Bool.{Bool, true, false, cond}
use mathlib.Core.Logic.{◌⊎◌, ⊎_elim}
use mathlib.Core.List.{List, [], ◌∷◌, ◌++◌, map, append_assoc, append-nil}
use native.Mathlib.Omega.{arith}
use lib.Dec.{ltb}
use lib.ListN.{length, get_or, length-append}
use borrow.Author.Tests.{lt-ltb, ltb-true, ltb-false}
use Rattle.model.specs.Sheets.{HeadValue, SheetValue, Valid, idle, most_segs, most_steps}
use Rattle.model.specs.Values.{head_of}
use Rattle.recorder.specs.Recorders.{recorder_of, started, appended, taken, with_idle, touch_verdict, idle_verdict}
use Rattle.recorder.specs.Moves.{Move, touching, resting, entry_of, after_move, after_moves, move_verdict, moves_verdict}
use Rattle.recorder.specs.Moves.{Moved, Led, unmoved, led, move_of, moves_of}
use Rattle.recorder.specs.declared.Recorder.{Recorder}
use Rattle.recorder.specs.declared.TouchAnswer.{TouchAnswer}
use Rattle.recorder.proofs.Answers.{step_room}
use Rattle.recorder.proofs.Bulk.{all_valid, one-accepted}
use Rattle.recorder.proofs.Standing.{rested-valid}

-- moves after others
pub moves-append : (v : SheetValue) (ms ns : List Move) → after_moves v (ms ++ ns) ≡ after_moves (after_moves v ms) ns
unfolding after_moves
moves-append v [] ns = refl
moves-append v (m ∷ ms) ns = moves-append (after_move v m) ms ns

-- touches alone
pub moves-touch : (v : SheetValue) → v.marks ≡ [] → (xs : List ℕ) → after_moves v (map touching xs) ≡ appended v xs
unfolding after_moves
moves-touch v none [] =
    rw (append-nil v.entries) (ap (λ (m : List Bool). record { form = v.form; head = v.head; entries = v.entries; marks = m }) none)
moves-touch v none (x ∷ xs) = moves-touch (taken v x) refl xs ∙ rw (append_assoc v.entries (x ∷ []) xs) refl

-- the head stays, and each move is one entry more
pub moves-head : (v : SheetValue) (ms : List Move) → (after_moves v ms).head ≡ v.head
unfolding after_moves
moves-head v [] = refl
moves-head v (touching x ∷ ms) = moves-head (taken v x) ms
moves-head v (resting ∷ ms) = moves-head (with_idle v) ms

pub moves-entries : (v : SheetValue) (ms : List Move) → (after_moves v ms).entries ≡ v.entries ++ map entry_of ms
unfolding after_moves
moves-entries v [] = sym (append-nil v.entries)
moves-entries v (touching x ∷ ms) = moves-entries (taken v x) ms ∙ append_assoc v.entries (x ∷ []) (map entry_of ms)
moves-entries v (resting ∷ ms) = moves-entries (with_idle v) ms ∙ append_assoc v.entries (idle ∷ []) (map entry_of ms)

-- a move that is accepted leaves a sheet of forms 1 to 3 within the limits, and one of these forms
pub moved-valid : (R : Recorder) (m : Move) → move_verdict R m ≡ (Ok (tt {0}))
    → (v : SheetValue) → Valid v → v.form ≤ 3 → R ≡ recorder_of v → Valid (after_move v m)
unfolding recorder_of
moved-valid R (touching x) a v valid early e = all_valid R (x ∷ []) (one-accepted R x a) v valid e early
moved-valid R resting a v valid early e =
    rested-valid v valid early (omega (arith, step_room R.steps a, ap (λ (Q : Recorder). Q.steps) e))

moved-early : (v : SheetValue) (m : Move) → v.form ≤ 3 → (after_move v m).form ≤ 3
moved-early v (touching x) early = early
moved-early v resting early = omega arith

-- and the recorder stands for it
moved-verdict : (R : Recorder) (m : Move) (r : TouchAnswer) → Moved R m r → r.verdict ≡ move_verdict R m
moved-verdict R (touching x) r t = t.verdict_is
moved-verdict R resting r t = t.verdict_is

moved-stands : (R : Recorder) (m : Move) (r : TouchAnswer) → Moved R m r → r.verdict ≡ (Ok (tt {0}))
    → (v : SheetValue) → Valid v → R ≡ recorder_of v → r.recorder ≡ recorder_of (after_move v m)
moved-stands R (touching x) r t a v valid e = t.stands v valid e a
moved-stands R resting r t a v valid e = t.stands v valid e a

-- so after any moves
pub led-stands : {R N : Recorder} {ms : List Move} → Led R ms N → (v : SheetValue) → Valid v → v.form ≤ 3 → R ≡ recorder_of v
    → Valid (after_moves v ms) × (N ≡ recorder_of (after_moves v ms))
unfolding after_moves
led-stands unmoved v valid early e = (valid, e)
led-stands {R} (led m r t a rest) v valid early e =
    led-stands rest (after_move v m) (moved-valid R m (sym (moved-verdict R m r t) ∙ a) v valid early e) (moved-early v m early)
    (moved-stands R m r t a v valid e)

-- the entries of the moves of entries
entry-again : (segs x : ℕ) → (x < segs) ⊎ (x ≡ idle) → entry_of (move_of segs x) ≡ x
entry-again segs x known = go (ltb x segs) refl
  where
    go : (b : Bool) → ltb x segs ≡ b → entry_of (cond b (touching x) resting) ≡ x
    go true e = refl
    go false e = ⊎_elim (λ lt. absurd (omega (arith, lt, ltb-false x segs e))) (λ is. sym is) known

entries-again : (segs : ℕ) (xs : List ℕ) → ((t : ℕ) → t < length xs → (get_or xs t segs < segs) ⊎ (get_or xs t segs ≡ idle))
    → map entry_of (map (move_of segs) xs) ≡ xs
entries-again segs [] known = refl
entries-again segs (x ∷ xs) known =
    rw (entry-again segs x (known 0 (omega arith)), entries-again segs xs (λ t lt. known (suc t) (omega arith))) refl

-- a recorder depends on the head and the entries of its sheet alone
recorder-same : (v : SheetValue) (form : ℕ) (head : HeadValue) (refs : List ℕ) (marks : List Bool) → head ≡ v.head → refs ≡ v.entries
    → recorder_of (record { form = form; head = head; entries = refs; marks = marks }) ≡ recorder_of v
unfolding recorder_of
recorder-same v form head refs marks h r = rw (h, r) refl

-- the moves that a sheet records lead from its head to the recorder that stands for it
pub sheet-moves : (v : SheetValue) → Valid v → recorder_of (after_moves (started v) (moves_of v)) ≡ recorder_of v
sheet-moves v valid =
    let after = after_moves (started v) (moves_of v) in
    recorder-same v after.form after.head after.entries after.marks (moves-head (started v) (moves_of v))
    (moves-entries (started v) (moves_of v) ∙ entries-again (length v.head.sizes) v.entries valid.run.entry_within)

-- one move that is accepted, and then the rest
first-move : (v : SheetValue) (m : Move) (ms : List Move) → move_verdict (recorder_of v) m ≡ (Ok (tt {0}))
    → moves_verdict (after_move v m) ms ≡ (Ok (tt {0}))
    → moves_verdict v (m ∷ ms) ≡ (Ok (tt {0}))
unfolding moves_verdict
first-move v m ms a rest =
    ap
    (λ (w : Result (Unit {0}) Refusal).
    elim w [
      | Ok _ ↦ moves_verdict (after_move v m) ms
      | Err why ↦ Err why
    ])
    a
    ∙ rest

-- where there is room, a touch of a segment is accepted, and an idle step
module _ (v : SheetValue) (few : length v.head.sizes ≤ most_segs) (room : length v.entries < most_steps) where
  touch-accepted : (x : ℕ) → x < length v.head.sizes → touch_verdict (recorder_of v) x ≡ (Ok (tt {0}))
  unfolding recorder_of head_of
  touch-accepted x lt =
      let all : min (length v.head.sizes) most_segs ≡ length v.head.sizes = omega arith in
      rw (all, lt-ltb x (length v.head.sizes) lt, lt-ltb (length v.entries) most_steps room) refl

  rest-accepted : idle_verdict (recorder_of v) ≡ (Ok (tt {0}))
  unfolding recorder_of
  rest-accepted = rw (lt-ltb (length v.entries) most_steps room) refl

  -- an entry is accepted as a move, and then the rest
  entry-accepted : (x : ℕ) (ms : List Move)
      → (x < length v.head.sizes → moves_verdict (taken v x) ms ≡ (Ok (tt {0}))) → moves_verdict (with_idle v) ms ≡ (Ok (tt {0}))
      → moves_verdict v (move_of (length v.head.sizes) x ∷ ms) ≡ (Ok (tt {0}))
  entry-accepted x ms after-touch after-rest = go (ltb x (length v.head.sizes)) refl
    where
      go : (b : Bool) → ltb x (length v.head.sizes) ≡ b → moves_verdict v (cond b (touching x) resting ∷ ms) ≡ (Ok (tt {0}))
      go true e =
          let lt = ltb-true x (length v.head.sizes) e in
          first-move v (touching x) ms (touch-accepted x lt) (after-touch lt)
      go false e = first-move v resting ms rest-accepted after-rest

-- entries, not too many, are all accepted as moves after a sheet
entries-accepted : (v : SheetValue) → length v.head.sizes ≤ most_segs → (xs : List ℕ) → length v.entries + length xs ≤ most_steps
    → moves_verdict v (map (move_of (length v.head.sizes)) xs) ≡ (Ok (tt {0}))
unfolding moves_verdict
entries-accepted v few [] room = refl
entries-accepted v few (x ∷ xs) room =
    entry-accepted v few (omega arith) x (map (move_of (length v.head.sizes)) xs)
    (λ lt. entries-accepted (taken v x) few xs (omega (arith, length-append v.entries (x ∷ []))))
    (entries-accepted (with_idle v) few xs (omega (arith, length-append v.entries (idle ∷ []))))

-- so are those that a sheet records, from its head on
pub moves-accepted : (v : SheetValue) → Valid v → moves_verdict (started v) (moves_of v) ≡ (Ok (tt {0}))
moves-accepted v valid = entries-accepted (started v) valid.run.segs_within v.entries (omega (arith, valid.run.steps_within))
