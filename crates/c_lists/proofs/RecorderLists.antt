-- The lists of a recorder: what a call stores makes them, and they hold the recorder.
use Rattle.std.specs.Prelude.{Result, Ok, Err}
use Prim.Native.Nat.{ℕ, zero, suc, ◌+◌, ◌*◌, min}
use mathlib.Core.Path.{◌≡◌, refl, sym, ◌∙◌}
use mathlib.Core.List.{List, [], ◌∷◌, map}
use native.Mathlib.Omega.{arith}
use lib.ListN.{length, get_or}
use borrow.Author.Tests.{lt-ltb, le-ltb}
use Rattle.model.specs.Sheets.{SheetValue, Valid, most_steps}
use Rattle.model.specs.Values.{head_of}
use Rattle.model.specs.declared.Refusal.{Refusal}
use Rattle.model.specs.declared.Kind.{Kind}
use Rattle.model.specs.declared.Kind.TheVariants.{Time, Space}
use Rattle.model.specs.declared.PriceRow.{PriceRow}
use Rattle.buckets.specs.Buckets.{bucket_count}
use Rattle.model.specs.Sums.{tabulate}
use Rattle.buckets.specs.Buckets.{no_bucket}
use Rattle.buckets.specs.declared.Bucket.{Bucket}
use Rattle.model.proofs.Tables.{length-tabulate, list-tabulate}
use Rattle.recorder.specs.Recorders.{recorder_of, appended, with_idle, with_step, room_verdict, Rested}
use Rattle.recorder.specs.declared.Recorder.{Recorder}
use Rattle.recorder.specs.declared.TouchAnswer.{TouchAnswer}
use Rattle.recorder.proofs.Answers.{refused-accepted, step_room, step-full, idle-refused, idle-accepted}
use Rattle.c_lists.specs.Tables.{rows_of, bucket_in, sums_of}
use Rattle.c_lists.specs.Recorders.{kind_in, kind_number, lists, recorder_in, lists_of, with_taken, idle_counts}
use Rattle.c_lists.specs.inner.Stored.{HeadStored, TakenStored}
use Rattle.c_lists.proofs.BucketSums.{sums-whole}

-- lists in which all of a recorder was stored are its lists
pub all-stored : (R : Recorder) (head counts sizes holds h d last sums : List ℕ) → HeadStored R head sizes holds h d
    → TakenStored R counts last sums
    → lists head counts sizes holds h d last sums ≡ lists_of R
unfolding lists_of
all-stored R head counts sizes holds h d last sums s t =
    rw (s.head_is, s.sizes_are, s.holds_are, s.h_are, s.d_are, t.counts_are, t.last_is, t.sums_are) refl

-- and where only what it has taken was stored, the others stay
pub taken-stored : (R : Recorder) (head counts sizes holds h d last sums counts' last' sums' : List ℕ) → TakenStored R counts' last' sums'
    → lists head counts' sizes holds h d last' sums' ≡ with_taken (lists head counts sizes holds h d last sums) R
unfolding with_taken
taken-stored R head counts sizes holds h d last sums counts' last' sums' t = rw (t.counts_are, t.last_is, t.sums_are) refl

-- the rows of the prices of rows
rows-again : (rows : List PriceRow) → rows_of (map (λ q. q.h) rows) (map (λ q. q.d) rows) ≡ rows
unfolding rows_of
rows-again [] = refl
rows-again (q ∷ rows) = rw (rows-again rows) refl

-- the kind of its number
pub kind-again : (k : Kind) → kind_in (kind_number k) ≡ k
kind-again Time = refl
kind-again Space = refl

-- an entry after the sums of a bucket
after-bucket : (b : Bucket) (bs : List Bucket) (n k : ℕ) → n ≡ suc (suc (suc (suc (suc (suc k)))))
    → get_or (sums_of (b ∷ bs)) n 0 ≡ get_or (sums_of bs) k 0
unfolding sums_of
after-bucket b bs n k same = rw same refl

-- a bucket of the sums of buckets
pub bucket-again : (bs : List Bucket) (k : ℕ) → bucket_in (sums_of bs) k ≡ get_or bs k no_bucket
unfolding sums_of
bucket-again [] k = refl
bucket-again (b ∷ bs) zero = refl
bucket-again (b ∷ bs) (suc k) =
    rw (
      after-bucket b bs (6 * suc k) (6 * k) (omega arith),
      after-bucket b bs (6 * suc k + 1) (6 * k + 1) (omega arith),
      after-bucket b bs (6 * suc k + 2) (6 * k + 2) (omega arith),
      after-bucket b bs (6 * suc k + 3) (6 * k + 3) (omega arith),
      after-bucket b bs (6 * suc k + 4) (6 * k + 4) (omega arith),
      after-bucket b bs (6 * suc k + 5) (6 * k + 5) (omega arith),
    ) (bucket-again bs k)

buckets-again : (bs : List Bucket) → length bs ≡ bucket_count → tabulate bucket_count (bucket_in (sums_of bs)) ≡ bs
buckets-again bs long = sym (list-tabulate bucket_count (bucket_in (sums_of bs)) bs no_bucket long (λ k lt. sym (bucket-again bs k)))

-- the lists of a recorder that stands for a sheet hold it
pub recorder-again : (v : SheetValue) → Valid v → recorder_in (lists_of (recorder_of v)) ≡ recorder_of v
unfolding recorder_in lists_of recorder_of head_of
recorder-again v valid =
    let cut : min v.head.a 255 ≡ v.head.a = omega (arith, valid.run.a_within) in
    rw (
      kind-again v.head.kind,
      cut,
      rows-again (recorder_of v).head.prices,
      buckets-again (recorder_of v).buckets (length-tabulate bucket_count _),
    ) refl

-- and after a call that took the references xs they are those of the recorder that stands for the sheet with them
pub taken-lists : (v : SheetValue) (xs : List ℕ)
    → with_taken (lists_of (recorder_of v)) (recorder_of (appended v xs)) ≡ lists_of (recorder_of (appended v xs))
unfolding with_taken lists_of recorder_of
taken-lists v xs = refl

-- the counts after an idle step, where it is accepted and where it is refused
pub counts-more : (counts : List ℕ) → room_verdict (get_or counts 0 0) ≡ (Ok (tt {0}))
    → (get_or counts 0 0 + 1) ∷ get_or counts 1 0 ∷ get_or counts 2 0 ∷ [] ≡ idle_counts counts
unfolding idle_counts
counts-more counts a = rw (lt-ltb (get_or counts 0 0) most_steps (step_room (get_or counts 0 0) a)) refl

pub counts-stay : (counts : List ℕ) (why : Refusal) → room_verdict (get_or counts 0 0) ≡ Err why → counts ≡ idle_counts counts
unfolding idle_counts
counts-stay counts why f = rw (le-ltb (get_or counts 0 0) most_steps (step-full (get_or counts 0 0) why f)) refl

-- so the lists in which only the counts change are those after an idle step of the recorder that they hold
pub record Idled (head counts sizes holds h d last sums : List ℕ) (w : Result (Unit {0}) Refusal) : Type 0 where
  pub answer : TouchAnswer
  pub answered : Rested (recorder_in (lists head counts sizes holds h d last sums)) answer
  pub verdict_is : answer.verdict ≡ w
  pub taken : w ≡ (Ok (tt {0}))
      → lists head (idle_counts counts) sizes holds h d last sums
      ≡ with_taken (lists head counts sizes holds h d last sums) answer.recorder
  pub unchanged : (why : Refusal) → w ≡ Err why → idle_counts counts ≡ counts

pub idle-lists : (head counts sizes holds h d last sums : List ℕ) → length sums ≡ 390 → (w : Result (Unit {0}) Refusal)
    → w ≡ room_verdict (get_or counts 0 0)
    → Idled head counts sizes holds h d last sums w
unfolding recorder_in with_taken lists_of
idle-lists head counts sizes holds h d last sums long (Ok _) is =
    record {
      answer = record { verdict = (Ok (tt {0})); recorder = with_step (recorder_in (lists head counts sizes holds h d last sums)) };
      answered = idle-accepted (recorder_in (lists head counts sizes holds h d last sums)) (sym is);
      verdict_is = refl;
      taken = λ a. rw (← counts-more counts (sym is), sums-whole sums long) refl;
      unchanged = λ why f. sym (counts-stay counts why (sym is ∙ f));
    }
idle-lists head counts sizes holds h d last sums long (Err why) is =
    record {
      answer = record { verdict = Err why; recorder = recorder_in (lists head counts sizes holds h d last sums) };
      answered = idle-refused (recorder_in (lists head counts sizes holds h d last sums)) why (sym is);
      verdict_is = refl;
      taken = λ a. refused-accepted why a;
      unchanged = λ other f. sym (counts-stay counts other (sym is ∙ f));
    }

-- and of a recorder that stands for a sheet they are those of the one that stands for the sheet with one idle step more
pub rested-lists : (v : SheetValue) → with_taken (lists_of (recorder_of v)) (recorder_of (with_idle v))
    ≡ lists_of (recorder_of (with_idle v))
unfolding with_taken lists_of recorder_of
rested-lists v = refl
