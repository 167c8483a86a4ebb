-- What one touch does to the buckets: one of them is set. And the bounds of their sums. For any run of touches, of which those that
-- count are added.
use Prim.Native.Nat.{ℕ, zero, suc, ◌+◌, ◌*◌, ◌^◌, ◌≤◌, ◌<◌}
use mathlib.Core.Path.{◌≡◌, refl, sym, ◌∙◌}
use mathlib.Core.Bool.{Bool, true, false, cond}
use mathlib.Core.List.{List, [], ◌∷◌}
use native.Mathlib.Omega.{arith}
use native.Mathlib.Nat.{add-zero}
use Rattle.std.specs.Prelude.{is_some}
use lib.Dec.{eqb}
use lib.ListN.{get_or, set, get_or-replicate}
use borrow.Author.Tests.{eq-eqb, ne_eqb}
use Rattle.model.specs.Sums.{sum, tabulate}
use Rattle.model.proofs.Bounds.{product-within}
use Rattle.model.proofs.Sums.{sum-eq}
use Rattle.buckets.specs.Buckets.{bucket_count, all_empty, no_bucket}
use Rattle.buckets.specs.inner.Pass.{Limited, with_touch, with_end, Within, Roomy}
use Rattle.buckets.specs.declared.Bucket.{Bucket}
use Rattle.buckets.specs.inner.Search.{retained}
use Rattle.buckets.specs.declared.pass.Touch.{Touch}
use Rattle.model.proofs.Tables.{get_or-tabulate, tabulate-eq, tabulate-const, tabulate-set}

-- the sum of g over those of the first n touches x that count and go to bucket k
unfoldable pub gathered : (ℕ → Bool) → (ℕ → Touch) → ℕ → ℕ → (Touch → ℕ) → ℕ
gathered counts x n k g = sum n (λ j. cond (counts j) (cond (eqb (x j).bucket k) (g (x j)) 0) 0)

-- bucket k of those of the first n touches x that count
unfoldable pub bucket_over : (ℕ → Bool) → (ℕ → Touch) → ℕ → ℕ → Bucket
bucket_over counts x n k =
    record {
      count = gathered counts x n k (λ y. 1);
      volume = gathered counts x n k (λ y. y.size);
      retention = record { 0 = gathered counts x n k (λ y. retained y.retention) };
      swap = record { 0 = gathered counts x n k (λ y. y.swap.0) };
      retentionz = record { 0 = gathered counts x n k (λ y. retained y.retention * y.size) };
      swapz = record { 0 = gathered counts x n k (λ y. y.swap.0 * y.size) };
    }

module _ (counts : ℕ → Bool) (x : ℕ → Touch) where
  -- what touch n adds to bucket k where it adds v to its own
  abbrev adds : ℕ → ℕ → ℕ → ℕ
  adds n k v = cond (counts n) (cond (eqb (x n).bucket k) v 0) 0

  gathered-suc : (n k : ℕ) (g : Touch → ℕ) → gathered counts x (suc n) k g ≡ gathered counts x n k g + adds n k (g (x n))
  unfolding gathered sum
  gathered-suc n k g = refl

  gathered_none : (k : ℕ) (g : Touch → ℕ) → gathered counts x 0 k g ≡ 0
  unfolding gathered sum
  gathered_none k g = refl

  bucket-start : (k : ℕ) → bucket_over counts x 0 k ≡ no_bucket
  unfolding bucket_over
  bucket-start k = simp gathered_none

  -- its own bucket has one more touch
  bucket-here : (n : ℕ) → counts n ≡ true
      → bucket_over counts x (suc n) (x n).bucket ≡ with_touch (bucket_over counts x n (x n).bucket) (x n)
  unfolding bucket_over
  bucket-here n c = simp (gathered-suc, c, eq-eqb (x n).bucket (x n).bucket refl)

  -- a bucket to which touch n adds nothing stays
  bucket-stays : (n k : ℕ) → ((v : ℕ) → adds n k v ≡ 0) → bucket_over counts x (suc n) k ≡ bucket_over counts x n k
  unfolding bucket_over
  bucket-stays n k nothing = simp (gathered-suc, nothing, add-zero)

  bucket-after : (n : ℕ) → bucket_over counts x (suc n) (x n).bucket
      ≡ cond (counts n) (with_touch (bucket_over counts x n (x n).bucket) (x n)) (bucket_over counts x n (x n).bucket)
  bucket-after n = go (counts n) refl
    where
      go : (b : Bool) → counts n ≡ b → bucket_over counts x (suc n) (x n).bucket
          ≡ cond (counts n) (with_touch (bucket_over counts x n (x n).bucket) (x n)) (bucket_over counts x n (x n).bucket)
      go true c = bucket-here n c ∙ rw c refl
      go false c = bucket-stays n (x n).bucket (λ v. rw c refl) ∙ rw c refl

  bucket-others : (n k : ℕ) → (k ≡ (x n).bucket → ⊥) → bucket_over counts x (suc n) k ≡ bucket_over counts x n k
  bucket-others n k ne =
      bucket-stays n k (λ v. rw (ne_eqb (x n).bucket k (λ e. ne (sym e))) (go (counts n)))
    where
      go : (b : Bool) → ◌≡◌ {A = ℕ} (cond b 0 0) 0
      go true = refl
      go false = refl

  -- the buckets of the first n touches
  abbrev pub buckets_over : ℕ → List Bucket
  buckets_over n = tabulate bucket_count (bucket_over counts x n)

  pub buckets-start : all_empty ≡ buckets_over 0
  unfolding all_empty
  buckets-start = tabulate-const bucket_count no_bucket (bucket_over counts x 0) (λ k l. bucket-start k)

  -- one more touch y is added to its bucket where it counts
  pub buckets-step : (n : ℕ) (buckets : List Bucket) → buckets ≡ buckets_over n → (y : Touch) → y ≡ x n → y.bucket < bucket_count
      → (b : Bucket) → b ≡ cond (counts n) (with_touch (get_or buckets y.bucket no_bucket) y) (get_or buckets y.bucket no_bucket)
      → set buckets y.bucket b ≡ buckets_over (suc n)
  buckets-step n buckets are y same lt b is =
      rw (is, are, same, get_or-tabulate bucket_count (bucket_over counts x n) (x n).bucket no_bucket (rw same at lt), ← bucket-after n)
      (tabulate-set bucket_count (bucket_over counts x n) (bucket_over counts x (suc n)) (x n).bucket (rw same at lt)
      (λ k l ne. bucket-others n k ne))

  -- a touch that does not count changes nothing
  pub buckets-skip : (n : ℕ) → counts n ≡ false → buckets_over n ≡ buckets_over (suc n)
  buckets-skip n none =
      tabulate-eq bucket_count (bucket_over counts x n) (bucket_over counts x (suc n))
      (λ k l. sym (bucket-stays n k (λ v. rw none refl)))

  -- touches that agree below n fill the same buckets
  gathered-eq : (d : ℕ → Bool) (y : ℕ → Touch) (n k : ℕ) → ((j : ℕ) → j < n → counts j ≡ d j) → ((j : ℕ) → j < n → x j ≡ y j)
      → (g : Touch → ℕ) → gathered counts x n k g ≡ gathered d y n k g
  unfolding gathered
  gathered-eq d y n k same equal g =
      sum-eq n (λ j. adds j k (g (x j))) (λ j. cond (d j) (cond (eqb (y j).bucket k) (g (y j)) 0) 0)
      (λ j lt. rw (same j lt, equal j lt) refl)

  pub bucket-eq : (d : ℕ → Bool) (y : ℕ → Touch) (n k : ℕ) → ((j : ℕ) → j < n → counts j ≡ d j) → ((j : ℕ) → j < n → x j ≡ y j)
      → bucket_over counts x n k ≡ bucket_over d y n k
  unfolding bucket_over
  bucket-eq d y n k same equal = simp (gathered-eq d y n k same equal)

-- empty buckets have room
pub roomy-start : Roomy all_empty 0
unfolding all_empty
roomy-start = record { each = λ k le. rw (get_or-replicate bucket_count k no_bucket no_bucket (omega arith)) (omega arith) }

-- an entry of a list with one entry set is the new one or the old
set-either : (l : List Bucket) (j k m : ℕ) (b d : Bucket) → Within b m → Within (get_or l k d) m → Within (get_or (set l j b) k d) m
set-either [] j k m b d new old = old
set-either (x ∷ l) zero zero m b d new old = new
set-either (x ∷ l) zero (suc k) m b d new old = old
set-either (x ∷ l) (suc j) zero m b d new old = old
set-either (x ∷ l) (suc j) (suc k) m b d new old = set-either l j k m b d new old

within_more : (b : Bucket) (m n : ℕ) → m ≤ n → Within b m → Within b n
within_more b m n le w = omega arith

-- a bucket with one more touch
touch-within : (b : Bucket) (m n : ℕ) → m + 2 ^ 48 ≤ n → Within b m → (y : Touch) → Limited y → Within (with_touch b y) n
touch-within b m n le w y lim =
    let r = product-within (retained y.retention) y.size (2 ^ 32) (2 ^ 16) (omega arith) (omega arith) in
    let s = product-within y.swap.0 y.size (2 ^ 32) (2 ^ 16) (omega arith) (omega arith) in
    record {
      count = omega arith;
      volume = omega arith;
      retention = omega arith;
      swap = omega arith;
      retentionz = omega arith;
      swapz = omega arith;
    }

end-within : (b : Bucket) (m n : ℕ) → m + 2 ^ 48 ≤ n → Within b m → (y : Touch) → Limited y → Within (with_end b y) n
end-within b m n le w y lim = go (is_some y.retention)
  where
    go : (r : Bool) → Within (cond r (with_touch b y) b) n
    go true = touch-within b m n le w y lim
    go false = within_more b m n (omega arith) w

pub roomy-more : (buckets : List Bucket) (m n : ℕ) → m ≤ n → Roomy buckets m → Roomy buckets n
roomy-more buckets m n le room = record { each = λ k l. within_more (get_or buckets k no_bucket) m n le (room.each k l) }

module _ (buckets : List Bucket) (m n : ℕ) (le : m + 2 ^ 48 ≤ n) (room : Roomy buckets m) (y : Touch) (lim : Limited y) (b : Bucket) where
  roomy-set : Within b n → Roomy (set buckets y.bucket b) n
  roomy-set w =
      record {
        each = λ k l.
            set-either buckets y.bucket k n b no_bucket w (within_more (get_or buckets k no_bucket) m n (omega arith) (room.each k l));
      }

  -- one more touch or end interval takes no more room than this
  pub roomy-touch : b ≡ with_touch (get_or buckets y.bucket no_bucket) y → Roomy (set buckets y.bucket b) n
  roomy-touch e =
      roomy-set (rw e (touch-within (get_or buckets y.bucket no_bucket) m n le (room.each y.bucket lim.is_bucket) y lim))

  pub roomy-end : b ≡ with_end (get_or buckets y.bucket no_bucket) y → Roomy (set buckets y.bucket b) n
  roomy-end e = roomy-set (rw e (end-within (get_or buckets y.bucket no_bucket) m n le (room.each y.bucket lim.is_bucket) y lim))
