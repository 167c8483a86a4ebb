-- What a recorder that stands for a sheet holds is what the pass has after the sheet's steps, and there is room in it; a sheet with
-- more steps is within the limits.
use Rattle.std.specs.Prelude.{Ok, Err}
use Prim.Native.Nat.{ℕ, ◌+◌, ◌-◌, ◌^◌, ◌≤◌, ◌<◌, min, max}
use mathlib.Core.Path.{◌≡◌, refl, sym, ap, ◌∙◌}
use mathlib.Core.Bool.{Bool, true, false, cond, false≢true}
use mathlib.Core.Logic.{◌⊎◌, inl, inr}
use mathlib.Core.List.{List, [], ◌∷◌, ◌++◌}
use native.Mathlib.Omega.{arith}
use lib.Dec.{ltb}
use lib.ListN.{length, get_or, take, drop, length-append, get_or-append}
use lib.Seq.{get_or-append-add, take-append_seam}
use borrow.Author.Tests.{ltb-true, ltb-false}
use Rattle.model.specs.Figures.{ref_cost, ref_volume}
use Rattle.model.specs.Sheets.{HeadValue, SheetValue, RowsWithin, RunWithin, Valid, head_run, trace_of}
use Rattle.model.specs.Sheets.{idle, newest_form, most_segs, most_rows, most_steps}
use Rattle.model.specs.Values.{padded, zero_rows, head_of}
use Rattle.model.specs.declared.Refusal.TheVariants.{RecorderFull}
use Rattle.model.proofs.Lists.{get_or-any}
use Rattle.model.proofs.Warm.{warm-few}
use Rattle.buckets.specs.inner.Pass.{Roomy, passed_after, passed_of}
use Rattle.buckets.specs.inner.Search.{in_places, prices_of, RowsOf}
use Rattle.buckets.specs.declared.Bucket.{Bucket}
use Rattle.buckets.specs.declared.search.Prices.{Prices}
use Rattle.buckets.specs.declared.pass.Passed.{Passed}
use Rattle.figures.proofs.Limits.{buckets-roomy}
use Rattle.recorder.specs.Recorders.{recorder_of, started, appended, taken, with_idle, room_verdict, idle_verdict}
use Rattle.recorder.specs.declared.Recorder.{Recorder}

-- the front of a list at the front of blanks
pub front : {A : Type 0} (xs blank : List A) (n m : ℕ) → length xs ≤ m → n ≡ min (length xs) m → take n (padded xs blank) ≡ xs
unfolding padded
front xs blank n m few is =
    let all : n ≡ length xs = omega arith in
    rw all (take-append_seam xs (drop (length xs) blank))

-- an entry of a list at the front of blanks
pub padded-at : {A : Type 0} (xs blank : List A) (i : ℕ) (d : A) → i < length xs → get_or (padded xs blank) i d ≡ get_or xs i d
unfolding padded
padded-at xs blank i d lt = get_or-append xs (drop (length xs) blank) d i lt

-- the rows of a head, from the prices of those that it counts
pub head_rows : (v : HeadValue) → RowsWithin v.rows → (n : ℕ) → n ≡ min (length v.rows) most_rows → (p : Prices)
    → p ≡ prices_of n (take n (padded v.rows (zero_rows most_rows))) → RowsOf p v.rows
head_rows v up n is p priced =
    let all = front v.rows (zero_rows most_rows) n most_rows up.rows_within is in
    record {
      priced = ap (λ (q : Prices). q.rows) priced ∙ ap in_places all;
      within = up;
      counted = omega (arith, up.rows_within, ap (λ (q : Prices). q.count) priced);
    }

-- the warm segments of a sheet have room in a head
pub few-warm : (v : SheetValue) → Valid v → length v.head.warm ≤ most_segs
few-warm v valid =
    omega (arith, warm-few (length v.head.sizes) v.head.warm valid.warm, valid.run.segs_within)

-- a recorder that stands for a sheet holds what the pass has after its steps
pub standing : (v : SheetValue)
    → record { buckets = (recorder_of v).buckets; last = (recorder_of v).last } ≡ passed_of v.head.rows (trace_of v)
unfolding recorder_of passed_after
standing v = refl

-- there is room in it
pub standing-roomy : (v : SheetValue) → Valid v → Roomy (recorder_of v).buckets (2 ^ 60)
unfolding recorder_of passed_after
standing-roomy v valid = buckets-roomy (trace_of v) valid.run v.head.rows

pub stands-roomy : (R : Recorder) (v : SheetValue) → Valid v → R ≡ recorder_of v → Roomy R.buckets (2 ^ 60)
stands-roomy R v valid e = rw e (standing-roomy v valid)

-- a recorder that holds a sheet's head and what the pass has after its steps stands for the sheet
pub recorder-passed : (v : SheetValue) (n : ℕ) → n ≡ length v.entries → (buckets : List Bucket) (last : List ℕ) (cost volume : ℕ)
    → record { buckets = buckets; last = last } ≡ passed_of v.head.rows (trace_of v) → cost ≡ ref_cost (trace_of v)
    → volume ≡ ref_volume (trace_of v)
    → record {
      head = head_of v.head;
      steps = n;
      last = last;
      buckets = buckets;
      cost = record { 0 = cost };
      volume = volume;
    } ≡ recorder_of v
unfolding recorder_of passed_after
recorder-passed v n all buckets last cost volume passed cost_is volume_is =
    rw (ap (λ (p : Passed). p.buckets) passed, ap (λ (p : Passed). p.last) passed, cost_is, volume_is, all) refl

-- what holds of each entry of two lists holds of each entry of both
appended-each : (P : ℕ → Type 0) (xs ys : List ℕ) (d e : ℕ) → ((t : ℕ) → t < length xs → P (get_or xs t d))
    → ((t : ℕ) → t < length ys → P (get_or ys t e)) → (t : ℕ) → t < length (xs ++ ys) → P (get_or (xs ++ ys) t d)
appended-each P xs ys d e first second t l = at (ltb t (length xs)) refl
  where
    at : (b : Bool) → ltb t (length xs) ≡ b → P (get_or (xs ++ ys) t d)
    at true e =
        let below = ltb-true t (length xs) e in
        rw (get_or-append xs ys d t below) (first t below)
    at false f =
        let j = t - length xs in
        let same : t ≡ length xs + j = omega (arith, ltb-false t (length xs) f) in
        let lt : j < length ys = omega (arith, length-append xs ys) in
        rw (same, get_or-append-add xs ys j d, get_or-any ys j d e lt) (second j lt)

-- an entry of a step: a segment, or idle
abbrev Entry : SheetValue → ℕ → Type 0
Entry v x = (x < length v.head.sizes) ⊎ (x ≡ idle)

-- other steps, not too many, leave a sheet's run within the limits
steps-run : (v : SheetValue) → Valid v → (refs : List ℕ) → length refs ≤ most_steps
    → ((t : ℕ) → t < length refs → Entry v (get_or refs t (length v.head.sizes))) → RunWithin (head_run v.head refs)
steps-run v valid refs few entries =
    record {
      a_within = valid.run.a_within;
      some_segs = valid.run.some_segs;
      segs_within = valid.run.segs_within;
      some_size = valid.run.some_size;
      size_within = valid.run.size_within;
      steps_within = few;
      entry_within = entries;
    }

-- and with no marks they leave a sheet within the limits: in form 1 each has a touch, and in form 4, where each has a mark, there are none
steps-valid : (v : SheetValue) → Valid v → (form : ℕ) → v.form ≤ form → form ≤ newest_form
    → (refs : List ℕ) → RunWithin (head_run v.head refs)
    → (form ≡ 1 → (t : ℕ) → t < length refs → get_or refs t (length v.head.sizes) < length v.head.sizes)
    → (4 ≤ form → length refs ≡ 0)
    → Valid (record { form = form; head = v.head; entries = refs; marks = [] })
steps-valid v valid form least known refs within segments none =
    record {
      some_form = omega (arith, valid.some_form);
      form_within = known;
      rows = valid.rows;
      run = within;
      whole = segments;
      warm = valid.warm;
      cold = λ early. valid.cold (omega arith);
      marked = λ late. sym (none late);
      modifying = λ t e. absurd (false≢true e);
      unmarked = λ early. refl;
    }

-- more references
module _ (v : SheetValue) (valid : Valid v) (xs : List ℕ) (segments : (t : ℕ) → t < length xs → get_or xs t 0 < length v.head.sizes)
    (room : length v.entries + length xs ≤ most_steps) where
  pub appended-run : RunWithin (trace_of (appended v xs))
  appended-run =
      steps-run v valid (v.entries ++ xs) (omega (arith, length-append v.entries xs))
      (appended-each (Entry v) v.entries xs (length v.head.sizes) 0 valid.run.entry_within (λ t lt. inl (segments t lt)))

  pub appended-valid : v.form ≤ 3 → Valid (appended v xs)
  appended-valid early =
      let segs = length v.head.sizes in
      steps-valid v valid v.form (omega arith) valid.form_within (v.entries ++ xs) appended-run
      (λ first. appended-each (λ x. x < segs) v.entries xs segs 0 (valid.whole first) segments)
      (λ late. absurd (omega arith))

-- one reference more
pub taken-run : (v : SheetValue) → Valid v → (x : ℕ) → x < length v.head.sizes → length v.entries < most_steps
    → RunWithin (trace_of (taken v x))
taken-run v valid x lt room = appended-run v valid (x ∷ []) (λ t l. one t (omega arith)) (omega arith)
  where
    one : (t : ℕ) → t ≡ 0 → get_or (x ∷ []) t 0 < length v.head.sizes
    one t e = rw e lt

-- one idle step more
pub rested-valid : (v : SheetValue) → Valid v → v.form ≤ 3 → length v.entries < most_steps → Valid (with_idle v)
rested-valid v valid early room =
    steps-valid v valid (max 2 v.form) (omega arith) (omega (arith, valid.form_within)) (v.entries ++ (idle ∷ []))
    (steps-run v valid (v.entries ++ (idle ∷ [])) (omega (arith, length-append v.entries (idle ∷ [])))
    (appended-each (Entry v) v.entries (idle ∷ []) (length v.head.sizes) 0 valid.run.entry_within
    (λ t l. inr (one t (omega arith)))))
    (λ first. absurd (omega (arith, first)))
    (λ late. absurd (omega arith))
  where
    one : (t : ℕ) → t ≡ 0 → get_or (idle ∷ []) t 0 ≡ idle
    one t e = rw e refl

-- the same steps in form 2 or 3
pub later-valid : (v : SheetValue) → Valid v → v.form ≤ 3
    → Valid (record { form = max 2 v.form; head = v.head; entries = v.entries; marks = [] })
later-valid v valid early =
    steps-valid v valid (max 2 v.form) (omega arith) (omega (arith, valid.form_within)) v.entries valid.run
    (λ first. absurd (omega (arith, first))) (λ late. absurd (omega arith))

-- a recorder that takes an idle step has room for it
pub idle-room : (R : Recorder) (v : SheetValue) → R ≡ recorder_of v → idle_verdict R ≡ (Ok (tt {0})) → length v.entries < most_steps
unfolding recorder_of
idle-room R v e a =
    go (ltb (length v.entries) most_steps) refl (ap (λ (Q : Recorder). room_verdict Q.steps) (sym e) ∙ a)
  where
    go : (b : Bool) → ltb (length v.entries) most_steps ≡ b → cond b (Ok (tt {0})) (Err RecorderFull) ≡ (Ok (tt {0}))
        → length v.entries < most_steps
    go true l w = ltb-true (length v.entries) most_steps l
    go false l w = let z : ◌≡◌ {A = ℕ} 0 1 = cc in omega arith

-- no steps
pub started-valid : (v : SheetValue) → Valid v → Valid (started v)
started-valid v valid =
    steps-valid v valid v.form (omega arith) valid.form_within [] (steps-run v valid [] (omega arith) (λ t l. absurd (omega arith)))
    (λ first t l. absurd (omega arith)) (λ late. refl)
