-- The list of a recorder, part by part: what stands at each place, and the list after a number changed.
use Prim.Native.Nat.{ℕ, zero, suc, ◌+◌, ◌*◌, ◌<◌}
use mathlib.Core.Path.{◌≡◌, refl, sym, ap, ◌∙◌}
use mathlib.Core.List.{List, [], ◌∷◌, ◌++◌, map}
use native.Mathlib.Omega.{arith}
use native.Mathlib.Nat.{zero-add, suc-add}
use lib.ListN.{length, get_or, set, length-append, length-set, length-map, get_or-append, get_or-map}
use lib.Seq.{get_or-append-add, set-append_left}
use Rattle.model.specs.Costs.{unit_cost}
use Rattle.model.specs.Sheets.{most_segs, most_rows, row_in}
use Rattle.model.specs.declared.PriceRow.{PriceRow}
use Rattle.buckets.specs.Buckets.{bucket_count, no_bucket}
use Rattle.buckets.specs.inner.Pass.{with_touch}
use Rattle.buckets.specs.declared.Bucket.{Bucket}
use Rattle.buckets.specs.declared.pass.Touch.{Touch}
use Rattle.recorder.specs.declared.Recorder.{Recorder}
use Rattle.c_lists.specs.Tables.{sums_of}
use Rattle.c_lists.specs.Recorders.{kind_in, kind_number}
use Rattle.c_lists.specs.RecorderList.{list_of, bucket_at, at_sizes, at_h, at_d, at_holds, at_last, at_sums}
use Rattle.c_lists.specs.RecorderList.{at_kind, at_steps, at_cost, at_volume}
use Rattle.c_lists.specs.inner.InPlace.{with_bucket, with_filed, with_mark}
use Rattle.c_lists.proofs.BucketSums.{six}
use Rattle.c_lists.proofs.InPlace.{filed-is}
use Rattle.c_lists.proofs.RecorderLists.{kind-again, bucket-again}

-- an entry behind a first list of n, read and stored
entry-behind : (xs ys : List ℕ) (n i : ℕ) → length xs ≡ n → get_or (xs ++ ys) (n + i) 0 ≡ get_or ys i 0
entry-behind xs ys n i e = rw (← e) (get_or-append-add xs ys i 0)

store-add : (xs ys : List ℕ) (i y : ℕ) → set (xs ++ ys) (length xs + i) y ≡ xs ++ set ys i y
store-add [] ys i y = ap (λ (k : ℕ). set ys k y) (zero-add i)
store-add (x ∷ xs) ys i y =
    ap (λ (k : ℕ). set (x ∷ (xs ++ ys)) k y) (suc-add (length xs) i) ∙ ap (λ (r : List ℕ). x ∷ r) (store-add xs ys i y)

store-behind : (xs ys : List ℕ) (n i y : ℕ) → length xs ≡ n → set (xs ++ ys) (n + i) y ≡ xs ++ set ys i y
store-behind xs ys n i y e = rw (← e) (store-add xs ys i y)

-- a number stored behind the sums of a bucket
store-after : (b : Bucket) (l : List ℕ) (n m y : ℕ) → n ≡ suc (suc (suc (suc (suc (suc m)))))
    → set (b.count ∷ b.volume ∷ b.retention.0 ∷ b.swap.0 ∷ b.retentionz.0 ∷ b.swapz.0 ∷ l) n y
    ≡ b.count ∷ b.volume ∷ b.retention.0 ∷ b.swap.0 ∷ b.retentionz.0 ∷ b.swapz.0 ∷ set l m y
store-after b l n m y same = rw same refl

-- the six sums of bucket k stored
six-set : (bs : List Bucket) (k : ℕ) (b : Bucket) → k < length bs → six (sums_of bs) (6 * k) b ≡ sums_of (set bs k b)
unfolding sums_of
six-set [] k b lt = absurd (omega arith)
six-set (x ∷ bs) zero b lt = refl
six-set (x ∷ bs) (suc k) b lt =
    let l = sums_of bs in
    let l1 = set l (6 * k) b.count in
    let l2 = set l1 (6 * k + 1) b.volume in
    let l3 = set l2 (6 * k + 2) b.retention.0 in
    let l4 = set l3 (6 * k + 3) b.swap.0 in
    let l5 = set l4 (6 * k + 4) b.retentionz.0 in
    rw (
      store-after x l (6 * suc k) (6 * k) b.count (omega arith),
      store-after x l1 (6 * suc k + 1) (6 * k + 1) b.volume (omega arith),
      store-after x l2 (6 * suc k + 2) (6 * k + 2) b.retention.0 (omega arith),
      store-after x l3 (6 * suc k + 3) (6 * k + 3) b.swap.0 (omega arith),
      store-after x l4 (6 * suc k + 4) (6 * k + 4) b.retentionz.0 (omega arith),
      store-after x l5 (6 * suc k + 5) (6 * k + 5) b.swapz.0 (omega arith),
      six-set bs k b (omega arith),
    ) refl

-- a recorder whose lists are as long as the code has them
pub record Sized (R : Recorder) : Type 0 where
  pub sizes_many : length R.head.sizes ≡ most_segs
  pub prices_many : length R.head.prices ≡ most_rows
  pub holds_many : length R.head.holds ≡ most_segs
  pub last_many : length R.last ≡ most_segs
  pub buckets_many : length R.buckets ≡ bucket_count

-- its list up to each part
abbrev counted : Recorder → List ℕ
counted R = kind_number R.head.kind ∷ R.head.a ∷ R.head.segs ∷ R.head.rows ∷ R.head.warm ∷ R.steps ∷ R.cost.0 ∷ R.volume ∷ []

abbrev with_sizes : Recorder → List ℕ
with_sizes R = counted R ++ R.head.sizes

abbrev with_h : Recorder → List ℕ
with_h R = with_sizes R ++ map (λ q. q.h) R.head.prices

abbrev with_d : Recorder → List ℕ
with_d R = with_h R ++ map (λ q. q.d) R.head.prices

abbrev with_holds : Recorder → List ℕ
with_holds R = with_d R ++ R.head.holds

abbrev with_last : Recorder → List ℕ
with_last R = with_holds R ++ R.last

module _ (R : Recorder) (s : Sized R) where
  long-sizes : length (with_sizes R) ≡ at_h
  long-sizes = length-append (counted R) R.head.sizes ∙ ap (λ (n : ℕ). 8 + n) s.sizes_many

  long-h : length (with_h R) ≡ at_d
  long-h =
      let m = length-map R.head.prices (λ q. q.h) in
      length-append (with_sizes R) (map (λ q. q.h) R.head.prices) ∙ omega (arith, long-sizes, m, s.prices_many)

  long-d : length (with_d R) ≡ at_holds
  long-d =
      let m = length-map R.head.prices (λ q. q.d) in
      length-append (with_h R) (map (λ q. q.d) R.head.prices) ∙ omega (arith, long-h, m, s.prices_many)

  long-holds : length (with_holds R) ≡ at_last
  long-holds = length-append (with_d R) R.head.holds ∙ omega (arith, long-d, s.holds_many)

  long-last : length (with_last R) ≡ at_sums
  long-last = length-append (with_holds R) R.last ∙ omega (arith, long-holds, s.last_many)

  -- what stands in each part
  pub last-at : (i : ℕ) → i < most_segs → get_or (list_of R) (at_last + i) 0 ≡ get_or R.last i 0
  unfolding list_of
  last-at i lt =
      get_or-append (with_last R) (sums_of R.buckets) 0 (at_last + i) (omega (arith, long-last))
      ∙ entry-behind (with_holds R) R.last at_last i long-holds

  before_last : (n : ℕ) → n < at_last → get_or (list_of R) n 0 ≡ get_or (with_holds R) n 0
  unfolding list_of
  before_last n lt =
      get_or-append (with_last R) (sums_of R.buckets) 0 n (omega (arith, long-last))
      ∙ get_or-append (with_holds R) R.last 0 n (omega (arith, long-holds))

  pub holds_at : (i : ℕ) → i < most_segs → get_or (list_of R) (at_holds + i) 0 ≡ get_or R.head.holds i 0
  holds_at i lt = before_last (at_holds + i) (omega arith) ∙ entry-behind (with_d R) R.head.holds at_holds i long-d

  before-holds : (n : ℕ) → n < at_holds → get_or (list_of R) n 0 ≡ get_or (with_d R) n 0
  before-holds n lt = before_last n (omega arith) ∙ get_or-append (with_d R) R.head.holds 0 n (omega (arith, long-d))

  pub d-at : (r : ℕ) → r < most_rows → get_or (list_of R) (at_d + r) 0 ≡ (row_in R.head.prices r).d
  d-at r lt =
      before-holds (at_d + r) (omega arith)
      ∙ entry-behind (with_h R) (map (λ q. q.d) R.head.prices) at_d r long-h
      ∙ get_or-map (λ (q : PriceRow). q.d) R.head.prices r (record { h = 0; d = 0 })

  before-d : (n : ℕ) → n < at_d → get_or (list_of R) n 0 ≡ get_or (with_h R) n 0
  before-d n lt =
      before-holds n (omega arith) ∙ get_or-append (with_h R) (map (λ q. q.d) R.head.prices) 0 n (omega (arith, long-h))

  pub h-at : (r : ℕ) → r < most_rows → get_or (list_of R) (at_h + r) 0 ≡ (row_in R.head.prices r).h
  h-at r lt =
      before-d (at_h + r) (omega arith)
      ∙ entry-behind (with_sizes R) (map (λ q. q.h) R.head.prices) at_h r long-sizes
      ∙ get_or-map (λ (q : PriceRow). q.h) R.head.prices r (record { h = 0; d = 0 })

  pub size-at : (i : ℕ) → i < most_segs → get_or (list_of R) (at_sizes + i) 0 ≡ get_or R.head.sizes i 0
  size-at i lt =
      before-d (at_sizes + i) (omega arith)
      ∙ get_or-append (with_sizes R) (map (λ q. q.h) R.head.prices) 0 (at_sizes + i) (omega (arith, long-sizes))
      ∙ entry-behind (counted R) R.head.sizes at_sizes i refl

  sum-at : (at m : ℕ) → at ≡ at_sums + m → get_or (list_of R) at 0 ≡ get_or (sums_of R.buckets) m 0
  unfolding list_of
  sum-at at m e = rw e (entry-behind (with_last R) (sums_of R.buckets) at_sums m long-last)

  pub bucket_is : (k : ℕ) → bucket_at (list_of R) k ≡ get_or R.buckets k no_bucket
  bucket_is k =
      rw (
        sum-at (at_sums + 6 * k) (6 * k) refl,
        sum-at (at_sums + 6 * k + 1) (6 * k + 1) (omega arith),
        sum-at (at_sums + 6 * k + 2) (6 * k + 2) (omega arith),
        sum-at (at_sums + 6 * k + 3) (6 * k + 3) (omega arith),
        sum-at (at_sums + 6 * k + 4) (6 * k + 4) (omega arith),
        sum-at (at_sums + 6 * k + 5) (6 * k + 5) (omega arith),
      ) (bucket-again R.buckets k)

  -- a bucket stored
  sum-set : (l : List ℕ) (at m y : ℕ) → at ≡ at_sums + m → set (with_last R ++ l) at y ≡ with_last R ++ set l m y
  sum-set l at m y e = rw e (store-behind (with_last R) l at_sums m y long-last)

  pub bucket-set : (k : ℕ) (b : Bucket) → k < bucket_count
      → with_bucket (list_of R) k b
      ≡ list_of (record {
        head = R.head;
        steps = R.steps;
        last = R.last;
        buckets = set R.buckets k b;
        cost = R.cost;
        volume = R.volume;
      })
  unfolding list_of
  bucket-set k b lt =
      let l = sums_of R.buckets in
      let l1 = set l (6 * k) b.count in
      let l2 = set l1 (6 * k + 1) b.volume in
      let l3 = set l2 (6 * k + 2) b.retention.0 in
      let l4 = set l3 (6 * k + 3) b.swap.0 in
      let l5 = set l4 (6 * k + 4) b.retentionz.0 in
      rw (
        sum-set l (at_sums + 6 * k) (6 * k) b.count refl,
        sum-set l1 (at_sums + 6 * k + 1) (6 * k + 1) b.volume (omega arith),
        sum-set l2 (at_sums + 6 * k + 2) (6 * k + 2) b.retention.0 (omega arith),
        sum-set l3 (at_sums + 6 * k + 3) (6 * k + 3) b.swap.0 (omega arith),
        sum-set l4 (at_sums + 6 * k + 4) (6 * k + 4) b.retentionz.0 (omega arith),
        sum-set l5 (at_sums + 6 * k + 5) (6 * k + 5) b.swapz.0 (omega arith),
      ) (ap (λ (l : List ℕ). with_last R ++ l) (six-set R.buckets k b (omega (arith, s.buckets_many))))

  -- a mark stored
  mark_set : (i y : ℕ) → i < most_segs
      → set (list_of R) (at_last + i) y
      ≡ list_of (record {
        head = R.head;
        steps = R.steps;
        last = set R.last i y;
        buckets = R.buckets;
        cost = R.cost;
        volume = R.volume;
      })
  unfolding list_of
  mark_set i y lt =
      set-append_left (with_last R) (sums_of R.buckets) (at_last + i) y (omega (arith, long-last))
      ∙ ap (λ (l : List ℕ). l ++ sums_of R.buckets) (store-behind (with_holds R) R.last at_last i y long-holds)

-- the steps, Q and V stored
pub steps-set : (R : Recorder) (n : ℕ)
    → set (list_of R) at_steps n
    ≡ list_of (record {
      head = R.head;
      steps = n;
      last = R.last;
      buckets = R.buckets;
      cost = R.cost;
      volume = R.volume;
    })
unfolding list_of
steps-set R n = refl

sums-set : (R : Recorder) (cost volume : ℕ)
    → set (set (list_of R) 6 cost) 7 volume
    ≡ list_of (record {
      head = R.head;
      steps = R.steps;
      last = R.last;
      buckets = R.buckets;
      cost = record { 0 = cost };
      volume = volume;
    })
unfolding list_of
sums-set R cost volume = refl

-- the kind, Q and V read
pub kind_at : (R : Recorder) → get_or (list_of R) at_kind 0 ≡ kind_number R.head.kind
unfolding list_of
kind_at R = refl

pub cost-at : (R : Recorder) → get_or (list_of R) at_cost 0 ≡ R.cost.0
unfolding list_of
cost-at R = refl

pub volume-at : (R : Recorder) → get_or (list_of R) at_volume 0 ≡ R.volume
unfolding list_of
volume-at R = refl

-- a recorder with a touch in its bucket, in Q and in V; and with a mark and steps
abbrev pub filed_in : Recorder → Touch → Recorder
filed_in R x =
    record {
      head = R.head;
      steps = R.steps;
      last = R.last;
      buckets = set R.buckets x.bucket (with_touch (get_or R.buckets x.bucket no_bucket) x);
      cost = record { 0 = R.cost.0 + unit_cost R.head.kind x.size };
      volume = R.volume + x.size;
    }

abbrev pub marked_in : Recorder → ℕ → ℕ → Recorder
marked_in R i n =
    record { head = R.head; steps = n; last = set R.last i n; buckets = R.buckets; cost = R.cost; volume = R.volume }

module _ (R : Recorder) (s : Sized R) (x : Touch) where
  filed-list : x.bucket < bucket_count → with_filed (list_of R) x ≡ list_of (filed_in R x)
  filed-list lt =
      let l = list_of R in
      let k = x.bucket in
      let b = get_or R.buckets k no_bucket in
      let unit = unit_cost R.head.kind x.size in
      let stored : Recorder =
      record {
        head = R.head;
        steps = R.steps;
        last = R.last;
        buckets = set R.buckets k (with_touch b x);
        cost = R.cost;
        volume = R.volume;
      } in
      sym (filed-is l x R.head.kind b (with_touch b x) unit (with_bucket l k (with_touch b x))
      (sym (ap kind_in (kind_at R) ∙ kind-again R.head.kind)) (sym (bucket_is R s k)) refl refl refl)
      ∙ rw (cost-at R, volume-at R)
      (ap (λ (m : List ℕ). set (set m at_cost (R.cost.0 + unit)) at_volume (R.volume + x.size)) (bucket-set R s k (with_touch b x) lt)
      ∙ sums-set stored (R.cost.0 + unit) (R.volume + x.size))

  filed-sized : Sized (filed_in R x)
  filed-sized =
      record {
        sizes_many = s.sizes_many;
        prices_many = s.prices_many;
        holds_many = s.holds_many;
        last_many = s.last_many;
        buckets_many = length-set R.buckets x.bucket _ ∙ s.buckets_many;
      }

-- the list with one reference taken
pub taken-list : (R : Recorder) → Sized R → (x : Touch) (i n : ℕ) → x.bucket < bucket_count → i < most_segs
    → with_mark (with_filed (list_of R) x) i n ≡ list_of (marked_in (filed_in R x) i n)
taken-list R s x i n lt few =
    let F = filed_in R x in
    rw (filed-list R s x lt, mark_set F (filed-sized R s x) i n few)
    (steps-set (record {
      head = F.head;
      steps = F.steps;
      last = set F.last i n;
      buckets = F.buckets;
      cost = F.cost;
      volume = F.volume;
    }) n)
