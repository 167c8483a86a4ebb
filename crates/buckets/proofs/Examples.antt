-- The buckets of document 01's listing, kind space, a = 1, sizes 1 and 3, rows 1/2 and 1/1, references 0 1 0 1 1 0, worked by hand. The
-- swap costs are 2 and 4.
use Prim.Native.Nat.{ℕ}
use mathlib.Core.Path.{◌≡◌, refl}
use mathlib.Core.List.{List, [], ◌∷◌, map}
use Rattle.model.specs.Sheets.{listed, run_of}
use Rattle.model.specs.Sums.{sum}
use Rattle.model.specs.Traces.{Trace, touching, later, unreferenced}
use Rattle.model.specs.declared.Kind.TheVariants.{Space}
use Rattle.model.specs.declared.PriceRow.{PriceRow}
use Rattle.buckets.specs.FirstRow.{last_bucket, first_row}
use Rattle.buckets.specs.Buckets.{bucket_of, filed, bucket_after, ended, end_bucket, no_bucket}
use Rattle.buckets.specs.declared.Bucket.{Bucket}

run : Trace
run = run_of Space 1 (1 ∷ 3 ∷ []) [] (0 ∷ 1 ∷ 0 ∷ 1 ∷ 1 ∷ 0 ∷ [])

rows : List PriceRow
rows = record { h = 1; d = 2 } ∷ record { h = 1; d = 1 } ∷ []

-- count, volume, retention, swap, and the last two with each item multiplied by z
bucket : ℕ → ℕ → ℕ → ℕ → ℕ → ℕ → Bucket
bucket count volume retention swap retentionz swapz =
    record {
      count = count;
      volume = volume;
      retention = record { 0 = retention };
      swap = record { 0 = swap };
      retentionz = record { 0 = retentionz };
      swapz = record { 0 = swapz };
    }

-- after 6 steps, buckets 0, 1, 2 and the last: row 1/2 is the first to keep the reuses of steps 3 (R = 1) and 5 (R = 0), row 1/1 those of
-- steps 4 (R = 3) and 6 (R = 2), and the last has the two first touches
after-six : map (bucket_after rows run 6) (0 ∷ 1 ∷ 2 ∷ last_bucket ∷ [])
    ≡ bucket 2 4 1 6 1 14 ∷ bucket 2 4 5 6 11 14 ∷ no_bucket ∷ bucket 2 4 0 6 0 14 ∷ []
unfolding run rows bucket listed sum touching later unreferenced first_row bucket_of filed bucket_after
after-six = refl

-- after 3 steps: the reuse of step 3, and the first touches
after-three : map (bucket_after rows run 3) (0 ∷ 1 ∷ last_bucket ∷ []) ≡ bucket 1 1 1 2 1 2 ∷ no_bucket ∷ bucket 2 4 0 6 0 14 ∷ []
unfolding run rows bucket listed sum touching later unreferenced first_row bucket_of filed bucket_after
after-three = refl

-- the end intervals, as if touched in step 7: segment 0 (R = 0) in bucket 0, segment 1 (R = 3) in bucket 1
at-the-end : map (end_bucket rows run 2) (0 ∷ 1 ∷ last_bucket ∷ []) ≡ bucket 1 1 0 2 0 2 ∷ bucket 1 3 3 4 9 12 ∷ no_bucket ∷ []
unfolding run rows bucket listed sum later unreferenced first_row bucket_of ended end_bucket
at-the-end = refl
