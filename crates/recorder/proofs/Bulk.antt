-- Taking several references at once: the verdict of the first that would be refused, and that it is the same as touching one by one.
use Rattle.std.specs.Prelude.{Result, Ok, Err}
use Rattle.model.specs.declared.Refusal.{Refusal}
use Prim.Native.Nat.{ℕ, zero, suc, ◌+◌, ◌≤◌, ◌<◌, min}
use mathlib.Core.Path.{◌≡◌, refl, sym, ap, ◌∙◌}
use mathlib.Core.Bool.{Bool, true, false, cond}
use mathlib.Core.List.{List, [], ◌∷◌, ◌++◌, append_assoc, append-nil}
use native.Mathlib.Omega.{arith}
use native.Mathlib.Numerals.{add-one}
use lib.Dec.{ltb}
use lib.ListN.{length, get_or, drop, length-append}
use lib.Seq.{drop-cons}
use borrow.Author.Tests.{lt-ltb, le-ltb, ltb-true}
use Rattle.model.specs.Sheets.{SheetValue, RunWithin, Valid, trace_of, most_segs, most_steps}
use Rattle.model.specs.Values.{head_of}
use Rattle.model.specs.declared.Refusal.TheVariants.{OutOfRange, RecorderFull}
use Rattle.recorder.specs.Recorders.{recorder_of, appended, taken, ref_verdict, refs_verdict, touch_verdict, touch_all_verdict}
use Rattle.recorder.specs.Recorders.{TouchedAll, one_by_one}
use Rattle.recorder.specs.declared.Recorder.{Recorder}
use Rattle.recorder.specs.declared.TouchAnswer.{TouchAnswer}
use Rattle.recorder.proofs.Answers.{refused-accepted}
use Rattle.recorder.proofs.Standing.{appended-run, appended-valid}

-- the verdict on the references after one, by the verdict on that one
rest-verdict : ℕ → ℕ → List ℕ → Result (Unit {0}) Refusal → Result (Unit {0}) Refusal
rest-verdict segs count xs w =
    elim w [
      | Ok _ ↦ refs_verdict segs (suc count) xs
      | Err why ↦ Err why
    ]

verdict-step : (segs count x : ℕ) (xs : List ℕ) (w : Result (Unit {0}) Refusal) → ref_verdict segs count x ≡ w
    → refs_verdict segs count (x ∷ xs) ≡ rest-verdict segs count xs w
unfolding refs_verdict rest-verdict
verdict-step segs count x xs w e = ap (λ (q : Result (Unit {0}) Refusal). rest-verdict segs count xs q) e

-- the three verdicts on one reference
module _ (segs count x : ℕ) where
  ref-out-of-range : segs ≤ x → ref_verdict segs count x ≡ Err OutOfRange
  ref-out-of-range le = rw (le-ltb x segs le) refl

  module _ (lt : x < segs) where
    ref-full : most_steps ≤ count → ref_verdict segs count x ≡ Err RecorderFull
    ref-full le = rw (lt-ltb x segs lt, le-ltb count most_steps le) refl

    ref-accepted : count < most_steps → ref_verdict segs count x ≡ (Ok (tt {0}))
    ref-accepted room = rw (lt-ltb x segs lt, lt-ltb count most_steps room) refl

-- going along the references xs, n of which were asked: the verdict on all is that on those left
module _ (segs count : ℕ) (xs : List ℕ) (n : ℕ) where
  abbrev pub Along : Type 0
  Along = (n ≤ most_steps) × (refs_verdict segs count xs ≡ refs_verdict segs (count + n) (drop n xs))

  module _ (along : Along) where
    -- there is none left
    pub along-end : length xs ≤ n → (Ok (tt {0})) ≡ refs_verdict segs count xs
    unfolding refs_verdict
    along-end le = sym (along.1 ∙ rw (drop-none n xs le) refl)
      where
        drop-none : (n : ℕ) (xs : List ℕ) → length xs ≤ n → drop n xs ≡ []
        drop-none zero [] le = refl
        drop-none zero (x ∷ xs) le = absurd (omega arith)
        drop-none (suc n) [] le = refl
        drop-none (suc n) (x ∷ xs) le = drop-none n xs (omega arith)

    module _ (lt : n < length xs) where
      -- the next one, by its verdict
      next : (w : Result (Unit {0}) Refusal) → ref_verdict segs (count + n) (get_or xs n 0) ≡ w
          → refs_verdict segs count xs ≡ rest-verdict segs (count + n) (drop (suc n) xs) w
      next w e =
          along.1 ∙ rw (drop-cons xs n 0 lt) (verdict-step segs (count + n) (get_or xs n 0) (drop (suc n) xs) w e)

      pub along-out-of-range : segs ≤ get_or xs n 0 → Err OutOfRange ≡ refs_verdict segs count xs
      unfolding rest-verdict
      along-out-of-range le = sym (next (Err OutOfRange) (ref-out-of-range segs (count + n) (get_or xs n 0) le))

      pub along-full : get_or xs n 0 < segs → most_steps ≤ count + n → Err RecorderFull ≡ refs_verdict segs count xs
      unfolding rest-verdict
      along-full below le = sym (next (Err RecorderFull) (ref-full segs (count + n) (get_or xs n 0) below le))

      along-accepted : get_or xs n 0 < segs → count + n < most_steps
          → refs_verdict segs count xs ≡ refs_verdict segs (suc (count + n)) (drop (suc n) xs)
      unfolding rest-verdict
      along-accepted below room = next (Ok (tt {0})) (ref-accepted segs (count + n) (get_or xs n 0) below room)

pub along-start : (segs count : ℕ) (xs : List ℕ) → Along segs count xs 0
along-start segs count xs = let none : count + 0 ≡ count = omega arith in (omega arith, rw none refl)

pub along-next : (segs count : ℕ) (xs : List ℕ) (n : ℕ) → Along segs count xs n → n < length xs → get_or xs n 0 < segs
    → count + n < most_steps → Along segs count xs (n + 1)
along-next segs count xs n along lt below room =
    let sum : count + suc n ≡ suc (count + n) = omega arith in
    rw (add-one n) (omega arith, rw sum (along-accepted segs count xs n along lt below room))

-- all references are segments, and there is room for each
pub record Takable (segs count : ℕ) (xs : List ℕ) : Type 0 where
  pub segments : (t : ℕ) → t < length xs → get_or xs t 0 < segs
  pub room : (t : ℕ) → t < length xs → count + t < most_steps

one_more : (segs count x : ℕ) (xs : List ℕ) → x < segs → count < most_steps → Takable segs (suc count) xs → Takable segs count (x ∷ xs)
one_more segs count x xs below room rest = record { segments = at; room = left }
  where
    at : (t : ℕ) → t < length (x ∷ xs) → get_or (x ∷ xs) t 0 < segs
    at zero lt = below
    at (suc t) lt = rest.segments t (omega arith)

    left : (t : ℕ) → t < length (x ∷ xs) → count + t < most_steps
    left zero lt = omega arith
    left (suc t) lt = omega (arith, rest.room t (omega arith))

-- the first reference is accepted, and then the rest
accepted-first : (segs count x : ℕ) (xs : List ℕ) (p : Bool) → ltb x segs ≡ p → (q : Bool) → ltb count most_steps ≡ q
    → rest-verdict segs count xs (cond p (cond q (Ok (tt {0})) (Err RecorderFull)) (Err OutOfRange)) ≡ (Ok (tt {0}))
    → (x < segs) × (count < most_steps) × (refs_verdict segs (suc count) xs ≡ (Ok (tt {0})))
unfolding rest-verdict
accepted-first segs count x xs true p true q f = (ltb-true x segs p, ltb-true count most_steps q, f)
accepted-first segs count x xs true p false q f = refused-accepted RecorderFull f
accepted-first segs count x xs false p q any f = refused-accepted OutOfRange f

-- so it is where they are accepted
pub takable-is : (segs count : ℕ) (xs : List ℕ) → refs_verdict segs count xs ≡ (Ok (tt {0})) → Takable segs count xs
unfolding refs_verdict rest-verdict
takable-is segs count [] e = record { segments = λ t lt. absurd (omega arith); room = λ t lt. absurd (omega arith) }
takable-is segs count (x ∷ xs) e =
    let first = accepted-first segs count x xs (ltb x segs) refl (ltb count most_steps) refl e in
    one_more segs count x xs first.0 first.1 (takable-is segs (suc count) xs first.2)

-- and only there
pub takable-accepted : (segs count : ℕ) (xs : List ℕ) → Takable segs count xs → refs_verdict segs count xs ≡ (Ok (tt {0}))
unfolding refs_verdict rest-verdict
takable-accepted segs count [] s = refl
takable-accepted segs count (x ∷ xs) s =
    let first = ref-accepted segs count x (s.segments 0 (omega arith)) (omega (arith, s.room 0 (omega arith))) in
    verdict-step segs count x xs (Ok (tt {0})) first
    ∙ takable-accepted segs (suc count) xs
    (record { segments = λ t lt. s.segments (suc t) (omega arith); room = λ t lt. omega (arith, s.room (suc t) (omega arith)) })

-- the recorder that stands for a sheet stands for it with no reference more
pub none-appended : (v : SheetValue) (xs : List ℕ) → length xs ≡ 0 → recorder_of v ≡ recorder_of (appended v xs)
unfolding recorder_of
none-appended v [] none = rw (append-nil v.entries) refl
none-appended v (x ∷ xs) none = absurd (omega arith)

-- references that can be taken are within the number that a sheet has
pub takable-few : (segs count : ℕ) (xs : List ℕ) → Takable segs count xs → count ≤ most_steps → count + length xs ≤ most_steps
takable-few segs count [] s le = omega arith
takable-few segs count (x ∷ xs) s le = omega (arith, s.room (length xs) (omega arith))

-- the verdict of a recorder that stands for a sheet
pub verdict-of : (R : Recorder) (xs : List ℕ) (v : SheetValue) → Valid v → R ≡ recorder_of v
    → touch_all_verdict R xs ≡ refs_verdict (length v.head.sizes) (length v.entries) xs
unfolding recorder_of head_of
verdict-of R xs v valid e =
    let all : min (length v.head.sizes) most_segs ≡ length v.head.sizes = omega (arith, valid.run.segs_within) in
    rw (e, all) refl

-- references that such a recorder accepts can be taken after the sheet
pub takable-of : (R : Recorder) (xs : List ℕ) → touch_all_verdict R xs ≡ (Ok (tt {0}))
    → (v : SheetValue) → Valid v → R ≡ recorder_of v → Takable (length v.head.sizes) (length v.entries) xs
takable-of R xs a v valid e = takable-is (length v.head.sizes) (length v.entries) xs (sym (verdict-of R xs v valid e) ∙ a)

-- the touches after one, by the verdict on that one
rest-touched : SheetValue → ℕ → List ℕ → Result (Unit {0}) Refusal → TouchAnswer
rest-touched v x xs w =
    elim w [
      | Ok _ ↦ one_by_one (taken v x) xs
      | Err why ↦ record { verdict = Err why; recorder = recorder_of v }
    ]

-- the answer of touching one by one: the verdict on all references, and where it accepts the sheet with all of them
record OneByOne (v : SheetValue) (xs : List ℕ) (r : TouchAnswer) (w : Result (Unit {0}) Refusal) : Type 0 where
  verdict_is : r.verdict ≡ w
  all_taken : r.verdict ≡ (Ok (tt {0})) → r.recorder ≡ recorder_of (appended v xs)

one-by-one-step : (v : SheetValue) (x : ℕ) (xs : List ℕ)
    → OneByOne (taken v x) xs (one_by_one (taken v x) xs)
    (refs_verdict (min (length v.head.sizes) most_segs) (suc (length v.entries)) xs)
    → (w : Result (Unit {0}) Refusal)
    → OneByOne v (x ∷ xs) (rest-touched v x xs w) (rest-verdict (min (length v.head.sizes) most_segs) (length v.entries) xs w)
unfolding rest-touched rest-verdict
one-by-one-step v x xs rest (Ok _) =
    record {
      verdict_is = rest.verdict_is;
      all_taken = λ a. rest.all_taken a ∙ ap recorder_of (rw (append_assoc v.entries (x ∷ []) xs) refl);
    }
one-by-one-step v x xs rest (Err why) = record { verdict_is = refl; all_taken = λ a. refused-accepted why a }

one_by_one_lem : (v : SheetValue) (xs : List ℕ)
    → OneByOne v xs (one_by_one v xs) (refs_verdict (min (length v.head.sizes) most_segs) (length v.entries) xs)
unfolding one_by_one rest-touched refs_verdict rest-verdict recorder_of head_of
one_by_one_lem v [] = record { verdict_is = refl; all_taken = λ a. none-appended v [] refl }
one_by_one_lem v (x ∷ xs) =
    let one : length (v.entries ++ (x ∷ [])) ≡ suc (length v.entries) = omega (arith, length-append v.entries (x ∷ [])) in
    one-by-one-step v x xs (rw one at (one_by_one_lem (taken v x) xs)) (touch_verdict (recorder_of v) x)

-- taking all at once is touching one by one: the verdict is the same, and where it accepts so is the whole answer
pub touched-one-by-one : (R : Recorder) (xs : List ℕ) (r : TouchAnswer) → TouchedAll R xs r
    → (v : SheetValue) → Valid v → R ≡ recorder_of v
    → (r.verdict ≡ (one_by_one v xs).verdict) × (r.verdict ≡ (Ok (tt {0})) → r ≡ one_by_one v xs)
unfolding recorder_of head_of
touched-one-by-one R xs r t v valid e =
    let each = one_by_one_lem v xs in
    let same : r.verdict ≡ (one_by_one v xs).verdict = t.verdict_is ∙ rw e (sym each.verdict_is) in (
      same,
      λ a.
          let next : r.recorder ≡ (one_by_one v xs).recorder = t.stands v valid e a ∙ sym (each.all_taken (sym same ∙ a)) in
          rw (same, next) refl,
    )

-- references that a recorder that stands for a sheet accepts leave the sheet's run within the limits, and a sheet of forms 1 to 3
module _ (R : Recorder) (xs : List ℕ) (a : touch_all_verdict R xs ≡ Ok (tt {0})) (v : SheetValue) (valid : Valid v) (e : R ≡ recorder_of v)
  where
    can : Takable (length v.head.sizes) (length v.entries) xs
    can = takable-of R xs a v valid e

    few : length v.entries + length xs ≤ most_steps
    few = takable-few (length v.head.sizes) (length v.entries) xs can valid.run.steps_within

    pub all-run : RunWithin (trace_of (appended v xs))
    all-run = appended-run v valid xs can.segments few

    pub all_valid : v.form ≤ 3 → Valid (appended v xs)
    all_valid early = appended-valid v valid xs can.segments few early

-- a reference that is accepted is accepted as a list of one
pub one-accepted : (R : Recorder) (x : ℕ) → touch_verdict R x ≡ (Ok (tt {0})) → touch_all_verdict R (x ∷ []) ≡ (Ok (tt {0}))
unfolding rest-verdict refs_verdict
one-accepted R x e = verdict-step (min R.head.segs most_segs) R.steps x [] (Ok (tt {0})) e
