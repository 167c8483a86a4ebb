-- A list that a loop fills entry by entry, and six sums stored for each bucket.
use Prim.Native.Nat.{ℕ, zero, suc, ◌+◌, ◌*◌, ◌≤◌, ◌<◌}
use mathlib.Core.Path.{◌≡◌, refl, sym, ◌∙◌}
use mathlib.Core.Logic.{⊎_elim}
use mathlib.Core.List.{List, [], ◌∷◌, ◌++◌, append_assoc}
use native.Mathlib.Omega.{arith}
use native.Mathlib.Numerals.{add-one}
use lib.ListN.{length, get_or, take, set, length-set}
use lib.Seq.{take_all, take-suc-set, take-suc, get_or-set_same, get_or-set_other}
use Rattle.model.proofs.Sums.{last-or-below}
use Rattle.buckets.specs.Buckets.{bucket_count}
use Rattle.model.specs.Sums.{tabulate}
use Rattle.buckets.specs.Buckets.{no_bucket}
use Rattle.buckets.specs.declared.Bucket.{Bucket}
use Rattle.model.proofs.Tables.{list-tabulate}
use Rattle.c_lists.specs.Tables.{bucket_in, sums_of}

-- the first i entries of a list are those of the whole that it is to become, n entries long
pub record Filled {A : Type 0} (n : ℕ) (whole l : List A) (i : ℕ) : Type 0 where
  pub whole_length : length whole ≡ n
  pub l_length : length l ≡ n
  pub within : i ≤ n
  pub entries : take i l ≡ take i whole

module _ {A : Type 0} (n : ℕ) (whole l : List A) where
  pub filled_start : length whole ≡ n → length l ≡ n → Filled n whole l 0
  filled_start w e = record { whole_length = w; l_length = e; within = omega arith; entries = refl }

  pub filled_step : (i : ℕ) (x blank : A) → Filled n whole l i → i < n → get_or whole i blank ≡ x → Filled n whole (set l i x) (i + 1)
  filled_step i x blank s lt e =
      record {
        whole_length = s.whole_length;
        l_length = length-set l i x ∙ s.l_length;
        within = omega arith;
        entries =
            rw (
              add-one i,
              take-suc-set l i x (omega (arith, s.l_length)),
              take-suc whole i blank (omega (arith, s.whole_length)),
              s.entries,
              e,
            ) refl;
      }

  pub filled_end : (i : ℕ) → Filled n whole l i → n ≤ i → l ≡ whole
  filled_end i s le =
      sym (take_all i l (omega (arith, s.l_length))) ∙ s.entries ∙ take_all i whole (omega (arith, s.whole_length))

-- what stands before a stored entry stays
before : (l : List ℕ) (i j v : ℕ) → j < i → get_or (set l i v) j 0 ≡ get_or l j 0
before l i j v lt = get_or-set_other l i j v 0 (λ e. omega arith)

-- the six sums of a bucket stored from a place on, one after the other
abbrev one : List ℕ → ℕ → Bucket → List ℕ
one l at b = set l at b.count

abbrev two : List ℕ → ℕ → Bucket → List ℕ
two l at b = set (one l at b) (at + 1) b.volume

abbrev three : List ℕ → ℕ → Bucket → List ℕ
three l at b = set (two l at b) (at + 2) b.retention.0

abbrev four : List ℕ → ℕ → Bucket → List ℕ
four l at b = set (three l at b) (at + 3) b.swap.0

abbrev five : List ℕ → ℕ → Bucket → List ℕ
five l at b = set (four l at b) (at + 4) b.retentionz.0

abbrev pub six : List ℕ → ℕ → Bucket → List ℕ
six l at b = set (five l at b) (at + 5) b.swapz.0

module _ (l : List ℕ) (at : ℕ) (b : Bucket) where
  -- the length stays
  length_two : length (two l at b) ≡ length l
  length_two = simp length-set

  length-four : length (four l at b) ≡ length l
  length-four = simp length-set

  length-six : length (six l at b) ≡ length l
  length-six = simp length-set

  -- what stands before them stays
  six-before : (j : ℕ) → j < at → get_or (six l at b) j 0 ≡ get_or l j 0
  six-before j lt =
      before (five l at b) (at + 5) j b.swapz.0 (omega arith)
      ∙ before (four l at b) (at + 4) j b.retentionz.0 (omega arith)
      ∙ before (three l at b) (at + 3) j b.swap.0 (omega arith)
      ∙ before (two l at b) (at + 2) j b.retention.0 (omega arith)
      ∙ before (one l at b) (at + 1) j b.volume (omega arith)
      ∙ before l at j b.count lt

  -- of the sums after the third, the fourth and so on only later ones are stored
  after-four : (j : ℕ) → j < at + 4 → get_or (six l at b) j 0 ≡ get_or (four l at b) j 0
  after-four j lt =
      before (five l at b) (at + 5) j b.swapz.0 (omega arith) ∙ before (four l at b) (at + 4) j b.retentionz.0 (omega arith)

  after_two : (j : ℕ) → j < at + 2 → get_or (six l at b) j 0 ≡ get_or (two l at b) j 0
  after_two j lt =
      after-four j (omega arith)
      ∙ before (three l at b) (at + 3) j b.swap.0 (omega arith)
      ∙ before (two l at b) (at + 2) j b.retention.0 (omega arith)

  -- and they are the bucket's
  module _ (fits : at + 5 < length l) where
    first : get_or (six l at b) at 0 ≡ b.count
    first =
        after_two at (omega arith)
        ∙ before (one l at b) (at + 1) at b.volume (omega arith)
        ∙ get_or-set_same l at b.count 0 (omega arith)

    second : get_or (six l at b) (at + 1) 0 ≡ b.volume
    second =
        after_two (at + 1) (omega arith)
        ∙ get_or-set_same (one l at b) (at + 1) b.volume 0 (omega (arith, length-set l at b.count))

    third : get_or (six l at b) (at + 2) 0 ≡ b.retention.0
    third =
        after-four (at + 2) (omega arith)
        ∙ before (three l at b) (at + 3) (at + 2) b.swap.0 (omega arith)
        ∙ get_or-set_same (two l at b) (at + 2) b.retention.0 0 (omega (arith, length_two))

    fourth : get_or (six l at b) (at + 3) 0 ≡ b.swap.0
    fourth =
        after-four (at + 3) (omega arith)
        ∙ get_or-set_same (three l at b) (at + 3) b.swap.0 0
        (omega (arith, length_two, length-set (two l at b) (at + 2) b.retention.0))

    fifth : get_or (six l at b) (at + 4) 0 ≡ b.retentionz.0
    fifth =
        before (five l at b) (at + 5) (at + 4) b.swapz.0 (omega arith)
        ∙ get_or-set_same (four l at b) (at + 4) b.retentionz.0 0 (omega (arith, length-four))

    sixth : get_or (six l at b) (at + 5) 0 ≡ b.swapz.0
    sixth =
        get_or-set_same (five l at b) (at + 5) b.swapz.0 0
        (omega (arith, length-four, length-set (four l at b) (at + 4) b.retentionz.0))

bucket-here : (l : List ℕ) (k : ℕ) (b : Bucket) → 6 * k + 5 < length l → bucket_in (six l (6 * k) b) k ≡ b
bucket-here l k b fits =
    rw (
      first l (6 * k) b fits,
      second l (6 * k) b fits,
      third l (6 * k) b fits,
      fourth l (6 * k) b fits,
      fifth l (6 * k) b fits,
      sixth l (6 * k) b fits,
    ) refl

bucket-before : (l : List ℕ) (k : ℕ) (b : Bucket) (j : ℕ) → j < k → bucket_in (six l (6 * k) b) j ≡ bucket_in l j
bucket-before l k b j lt =
    rw (
      six-before l (6 * k) b (6 * j) (omega arith),
      six-before l (6 * k) b (6 * j + 1) (omega arith),
      six-before l (6 * k) b (6 * j + 2) (omega arith),
      six-before l (6 * k) b (6 * j + 3) (omega arith),
      six-before l (6 * k) b (6 * j + 4) (omega arith),
      six-before l (6 * k) b (6 * j + 5) (omega arith),
    ) refl

-- the sums of a bucket more
sums-more : (bs : List Bucket) (b : Bucket) → sums_of (bs ++ (b ∷ [])) ≡ sums_of bs ++ sums_of (b ∷ [])
unfolding sums_of
sums-more [] b = refl
sums-more (x ∷ bs) b = rw (sums-more bs b) refl

-- one entry more
take_next : (l : List ℕ) (n m : ℕ) → m ≡ suc n → n < length l → take m l ≡ take n l ++ (get_or l n 0 ∷ [])
take_next l n m e lt = rw e (take-suc l n 0 lt)

-- six entries more
take-six : (l : List ℕ) (n : ℕ) → n + 6 ≤ length l
    → take (n + 6) l
    ≡ take n l ++ (get_or l n 0 ∷ get_or l (n + 1) 0 ∷ get_or l (n + 2) 0 ∷ get_or l (n + 3) 0 ∷ get_or l (n + 4) 0 ∷ get_or l (n + 5)
    0 ∷ [])
take-six l n le =
    rw (
      take_next l (n + 5) (n + 6) (omega arith) (omega arith),
      take_next l (n + 4) (n + 5) (omega arith) (omega arith),
      take_next l (n + 3) (n + 4) (omega arith) (omega arith),
      take_next l (n + 2) (n + 3) (omega arith) (omega arith),
      take_next l (n + 1) (n + 2) (omega arith) (omega arith),
      take_next l n (n + 1) (omega arith) (omega arith),
    ) (simp append_assoc)

-- the sums of the buckets that stand in a list are the list, as far as they go
sums-front : (l : List ℕ) (n : ℕ) → 6 * n ≤ length l → sums_of (tabulate n (bucket_in l)) ≡ take (6 * n) l
unfolding sums_of tabulate
sums-front l zero le = refl
sums-front l (suc n) le =
    let next : 6 * suc n ≡ 6 * n + 6 = omega arith in
    sums-more (tabulate n (bucket_in l)) (bucket_in l n)
    ∙ rw (sums-front l n (omega arith), next) (sym (take-six l (6 * n) (omega arith)))

-- and of all sums the whole
pub sums-whole : (l : List ℕ) → length l ≡ 390 → sums_of (tabulate bucket_count (bucket_in l)) ≡ l
sums-whole l long = sums-front l bucket_count (omega (arith, long)) ∙ take_all (6 * bucket_count) l (omega (arith, long))

-- the first k buckets stand in the sums
pub record SumsStored (buckets : List Bucket) (sums : List ℕ) (k : ℕ) : Type 0 where
  pub buckets_length : length buckets ≡ bucket_count
  pub sums_length : length sums ≡ 390
  pub within : k ≤ bucket_count
  pub stored : (j : ℕ) → j < k → bucket_in sums j ≡ get_or buckets j no_bucket

module _ (buckets : List Bucket) (sums : List ℕ) where
  pub sums_start : length buckets ≡ bucket_count → length sums ≡ 390 → SumsStored buckets sums 0
  sums_start b s =
      record { buckets_length = b; sums_length = s; within = omega arith; stored = λ j lt. absurd (omega arith) }

  pub sums_step : (k : ℕ) → SumsStored buckets sums k → k < bucket_count
      → SumsStored buckets (six sums (6 * k) (get_or buckets k no_bucket)) (k + 1)
  sums_step k s lt =
      let b = get_or buckets k no_bucket in
      rw (add-one k)
      (record {
        buckets_length = s.buckets_length;
        sums_length = length-six sums (6 * k) b ∙ s.sums_length;
        within = omega arith;
        stored =
            λ j l.
            ⊎_elim
            (λ e. rw e (bucket-here sums k b (omega (arith, s.sums_length))))
            (λ below. bucket-before sums k b j below ∙ s.stored j below)
            (last-or-below k j l);
      })

  pub sums_end : (k : ℕ) → SumsStored buckets sums k → bucket_count ≤ k → sums ≡ sums_of buckets
  sums_end k s le =
      let all =
      list-tabulate bucket_count (bucket_in sums) buckets no_bucket s.buckets_length (λ j l. sym (s.stored j (omega arith))) in
      sym (rw all (sums-whole sums s.sums_length))
