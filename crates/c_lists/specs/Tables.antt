-- Rows of prices and buckets in lists of numbers, as include/segtrace.h has them.
use Rattle.std.specs.Prelude.{ℕ, ◌+◌, ◌*◌, List, [], ◌∷◌, get_or}
use Rattle.model.specs.declared.PriceRow.{PriceRow}
use Rattle.buckets.specs.declared.Bucket.{Bucket}

-- rows from their prices, which stand apart
unfoldable pub rows_of : List ℕ → List ℕ → List PriceRow
rows_of [] ds = []
rows_of (h ∷ hs) [] = []
rows_of (h ∷ hs) (d ∷ ds) = record { h = h; d = d } ∷ rows_of hs ds

-- the bucket whose six sums stand from a place on
abbrev pub bucket_from : List ℕ → ℕ → Bucket
bucket_from sums at =
    record {
      count = get_or sums at 0;
      volume = get_or sums (at + 1) 0;
      retention = record { 0 = get_or sums (at + 2) 0 };
      swap = record { 0 = get_or sums (at + 3) 0 };
      retentionz = record { 0 = get_or sums (at + 4) 0 };
      swapz = record { 0 = get_or sums (at + 5) 0 };
    }

-- bucket k of the sums: six numbers from place 6 * k on
abbrev pub bucket_in : List ℕ → ℕ → Bucket
bucket_in sums k = bucket_from sums (6 * k)

-- the sums of buckets, six numbers each
unfoldable pub sums_of : List Bucket → List ℕ
sums_of [] = []
sums_of (b ∷ bs) = b.count ∷ b.volume ∷ b.retention.0 ∷ b.swap.0 ∷ b.retentionz.0 ∷ b.swapz.0 ∷ sums_of bs
