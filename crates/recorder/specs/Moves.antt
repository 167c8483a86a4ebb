-- Any sequence of touches and idle steps on a recorder, and the sheet's value that it leads to.
use Rattle.model.specs.declared.Refusal.{Refusal}
use Rattle.std.specs.Prelude.{ℕ, ◌≡◌, cond, List, [], ◌∷◌, map, length, ltb, Result, Ok, Err}
use Rattle.model.specs.Sheets.{SheetValue, idle}
use Rattle.recorder.specs.Recorders.{recorder_of, taken, with_idle, touch_verdict, idle_verdict, Touched, Rested}
use Rattle.recorder.specs.declared.Recorder.{Recorder}
use Rattle.recorder.specs.declared.TouchAnswer.{TouchAnswer}

-- a touch of a segment, or an idle step
pub data Move : Type 0 where
  touching : ℕ → Move
  resting : Move

-- the entry of its step
abbrev pub entry_of : Move → ℕ
entry_of (touching x) = x
entry_of resting = idle

-- a sheet's value after it, and after several
abbrev pub after_move : SheetValue → Move → SheetValue
after_move v (touching x) = taken v x
after_move v resting = with_idle v

unfoldable pub after_moves : SheetValue → List Move → SheetValue
after_moves v [] = v
after_moves v (m ∷ ms) = after_moves (after_move v m) ms

-- the verdict of a recorder on it, and of one that stands for a sheet on several, each being asked after those before it: that of the first
-- that is refused
abbrev pub move_verdict : Recorder → Move → Result (Unit {0}) Refusal
move_verdict R (touching x) = touch_verdict R x
move_verdict R resting = idle_verdict R

unfoldable pub moves_verdict : SheetValue → List Move → Result (Unit {0}) Refusal
moves_verdict v [] = Ok tt
moves_verdict v (m ∷ ms) =
    elim (move_verdict (recorder_of v) m) [
      | Ok _ ↦ moves_verdict (after_move v m) ms
      | Err why ↦ Err why
    ]

-- what its call answers
abbrev pub Moved : Recorder → Move → TouchAnswer → Type 0
Moved R (touching x) r = Touched R x r
Moved R resting r = Rested R r

-- N is handed back by the calls of moves on the recorder R, one after the other, all of them accepted
pub data Led : (R : Recorder) → (ms : List Move) → (N : Recorder) → Type 0 where
  unmoved : {R : Recorder} → Led R [] R
  led : {R N : Recorder} {ms : List Move} (m : Move) (r : TouchAnswer) → Moved R m r → r.verdict ≡ (Ok tt) → Led r.recorder ms N
      → Led R (m ∷ ms) N

-- the moves that a sheet's value records
abbrev pub move_of : ℕ → ℕ → Move
move_of segs x = cond (ltb x segs) (touching x) resting

abbrev pub moves_of : SheetValue → List Move
moves_of v = map (move_of (length v.head.sizes)) v.entries
