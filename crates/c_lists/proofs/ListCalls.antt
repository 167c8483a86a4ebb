-- The calls that change a recorder's list in place: what each leaves, refused and accepted.
use Rattle.std.specs.Prelude.{Result, Ok, Err}
use Prim.Native.Nat.{ℕ, ◌+◌, ◌<◌, min}
use mathlib.Core.Path.{◌≡◌, refl, sym, ap, ◌∙◌}
use mathlib.Core.Bool.{false≢true}
use mathlib.Core.List.{List, [], ◌∷◌, ◌++◌, append_assoc}
use native.Mathlib.Omega.{arith}
use native.Mathlib.Numerals.{add-one}
use lib.ListN.{length, get_or, take, set, length-append}
use lib.Seq.{take-suc, get_or-take, length-take-le}
use Rattle.model.specs.Sheets.{SheetValue, Valid, RunWithin, head_run, most_segs, most_steps}
use Rattle.model.specs.Values.{head_of}
use Rattle.model.specs.declared.Refusal.{Refusal}
use Rattle.recorder.specs.Recorders.{recorder_of, appended, taken, with_idle, room_verdict, ref_verdict, refs_verdict}
use Rattle.recorder.specs.Recorders.{touch_verdict, touch_all_verdict, idle_verdict}
use Rattle.recorder.specs.declared.Recorder.{Recorder}
use Rattle.recorder.proofs.Answers.{refused-accepted, ref-room}
use Rattle.recorder.proofs.Bulk.{Takable}
use Rattle.recorder.proofs.Standing.{appended-run}
use Rattle.recorder.proofs.Stepping.{rested-stands}
use Rattle.c_lists.specs.RecorderList.{list_of, recorder_at, Changed, at_segs, at_steps}
use Rattle.c_lists.specs.inner.InPlace.{IsTaken}
use Rattle.c_lists.proofs.ListParts.{steps-set}
use Rattle.c_lists.proofs.ListStands.{take-stands}

-- the counts of a list that stands for a sheet
segs-in : (v : SheetValue) (l : List ℕ) → l ≡ list_of (recorder_of v) → get_or l at_segs 0 ≡ length v.head.sizes
unfolding list_of recorder_of head_of
segs-in v l e = ap (λ (m : List ℕ). get_or m at_segs 0) e

steps-in : (v : SheetValue) (l : List ℕ) → l ≡ list_of (recorder_of v) → get_or l at_steps 0 ≡ length v.entries
unfolding list_of recorder_of
steps-in v l e = ap (λ (m : List ℕ). get_or m at_steps 0) e

-- refused, the list stays; accepted, it changes as it is said of a list that stands for a sheet
module _ (verdictOf : Recorder → Result (Unit {0}) Refusal) (next : SheetValue → SheetValue) (l : List ℕ) where
  pub stays : (why : Refusal) → Err why ≡ verdictOf (recorder_at l) → Changed verdictOf next l l
  stays why e = record { unchanged = λ w f. refl; stands = λ v valid is a. refused-accepted why (e ∙ a) }

  pub moves : (l' : List ℕ) → (Ok (tt {0})) ≡ verdictOf (recorder_at l)
      → ((v : SheetValue) → Valid v → l ≡ list_of (recorder_of v) → l' ≡ list_of (recorder_of (next v))) → Changed verdictOf next l l'
  moves l' a go = record { unchanged = λ why f. refused-accepted why (sym (a ∙ f)); stands = λ v valid is acc. go v valid is }

-- one reference
module _ (l : List ℕ) (x : ℕ) where
  pub one-verdict : ref_verdict (min (get_or l at_segs 0) most_segs) (get_or l at_steps 0) x ≡ touch_verdict (recorder_at l) x
  unfolding recorder_at
  one-verdict = refl

  pub touched : (Ok (tt {0})) ≡ touch_verdict (recorder_at l) x → (l' : List ℕ) → IsTaken l x (get_or l at_steps 0) l'
      → Changed (λ R. touch_verdict R x) (λ v. taken v x) l l'
  touched a l' is =
      let room = ref-room (min (get_or l at_segs 0) most_segs) (get_or l at_steps 0) x (one-verdict ∙ sym a) in
      moves (λ R. touch_verdict R x) (λ v. taken v x) l l' a
      (λ v valid e. take-stands v valid x (omega (arith, segs-in v l e, room)) (omega (arith, steps-in v l e, room)) l'
      (rw (e, steps-in v (list_of (recorder_of v)) refl) at is))

-- an idle step
module _ (l : List ℕ) where
  pub step-verdict : room_verdict (get_or l at_steps 0) ≡ idle_verdict (recorder_at l)
  unfolding recorder_at
  step-verdict = refl

idled-of : (v : SheetValue) → Valid v → (R : Recorder) → R ≡ recorder_of v
    → set (list_of R) at_steps (R.steps + 1) ≡ list_of (recorder_of (with_idle v))
idled-of v valid R e = steps-set R (R.steps + 1) ∙ ap list_of (rested-stands R v valid e)

steps-at : (R : Recorder) → get_or (list_of R) at_steps 0 ≡ R.steps
unfolding list_of
steps-at R = refl

pub idled : (l : List ℕ) → (Ok (tt {0})) ≡ idle_verdict (recorder_at l)
    → Changed idle_verdict with_idle l (set l at_steps (get_or l at_steps 0 + 1))
idled l a =
    moves idle_verdict with_idle l (set l at_steps (get_or l at_steps 0 + 1)) a
    (λ v valid e. rw (e, steps-at (recorder_of v)) (idled-of v valid (recorder_of v) refl))

-- several references
pub all-verdict : (l xs : List ℕ) → refs_verdict (min (get_or l at_segs 0) most_segs) (get_or l at_steps 0) xs
    ≡ touch_all_verdict (recorder_at l) xs
unfolding recorder_at
all-verdict l xs = refl

-- a sheet's head and steps within the limits make a valid sheet of form 3
three : (v : SheetValue) → Valid v → (entries : List ℕ) → RunWithin (head_run v.head entries)
    → Valid (record { form = 3; head = v.head; entries = entries; marks = [] })
three v valid entries run =
    record {
      some_form = omega arith;
      form_within = omega arith;
      rows = valid.rows;
      run = run;
      whole = λ e. absurd (omega arith);
      warm = valid.warm;
      cold = λ le. absurd (omega arith);
      marked = λ le. absurd (omega arith);
      modifying = λ t e. absurd (false≢true e);
      unmarked = λ le. refl;
    }

-- the recorder does not look at the form
form-aside : (v : SheetValue) (entries : List ℕ)
    → recorder_of (record { form = v.form; head = v.head; entries = entries; marks = [] })
    ≡ recorder_of (record { form = 3; head = v.head; entries = entries; marks = [] })
unfolding recorder_of
form-aside v entries = refl

-- one more of several that can be taken
module _ (v : SheetValue) (valid : Valid v) (l₀ xs : List ℕ) (e : l₀ ≡ list_of (recorder_of v))
    (can : Takable (min (get_or l₀ at_segs 0) most_segs) (get_or l₀ at_steps 0) xs) (t : ℕ) (lt : t < length xs) where
  below : (j : ℕ) → j < length (take t xs) → get_or (take t xs) j 0 < length v.head.sizes
  below j less =
      let few : j < t = omega (arith, length-take-le t xs (omega arith)) in
      rw (get_or-take t xs j 0 few) (omega (arith, can.segments j (omega arith), segs-in v l₀ e))

  room : length v.entries + length (take t xs) < most_steps
  room = omega (arith, length-take-le t xs (omega arith), can.room t lt, steps-in v l₀ e)

  pub all-next : (l l' : List ℕ) → l ≡ list_of (recorder_of (appended v (take t xs)))
      → IsTaken l (get_or xs t 0) (get_or l₀ at_steps 0 + t) l'
      → l' ≡ list_of (recorder_of (appended v (take (t + 1) xs)))
  all-next l l' at is =
      let x = get_or xs t 0 in
      let entries = v.entries ++ take t xs in
      let w : SheetValue = record { form = 3; head = v.head; entries = entries; marks = [] } in
      let valid-w = three v valid entries (appended-run v valid (take t xs) below (omega (arith, room))) in
      let count : get_or l₀ at_steps 0 + t ≡ length entries =
      omega (arith, steps-in v l₀ e, length-append v.entries (take t xs), length-take-le t xs (omega arith)) in
      let here = at ∙ ap list_of (form-aside v entries) in
      let next =
      take-stands w valid-w x (omega (arith, can.segments t lt, segs-in v l₀ e))
      (omega (arith, room, length-append v.entries (take t xs))) l' (rw (here, count) at is) in
      let more : entries ++ (x ∷ []) ≡ v.entries ++ take (t + 1) xs =
      append_assoc v.entries (take t xs) (x ∷ [])
      ∙ ap (λ (ys : List ℕ). v.entries ++ ys) (sym (rw (add-one t) (take-suc xs t 0 lt))) in
      next
      ∙ ap (λ (ys : List ℕ). list_of (recorder_of (record { form = 3; head = v.head; entries = ys; marks = [] }))) more
      ∙ ap list_of (sym (form-aside v (v.entries ++ take (t + 1) xs)))
