-- What the functions that change a recorder's list in place give: a price, a touch, a touch put into its bucket, and a reference taken.
use Prim.Native.Nat.{ℕ, ◌+◌, min}
use mathlib.Core.Path.{◌≡◌, refl, ap, ◌∙◌}
use mathlib.Core.List.{List}
use native.Mathlib.Omega.{arith}
use lib.ListN.{get_or, set}
use Rattle.model.specs.Costs.{unit_cost}
use Rattle.model.specs.Sheets.{largest_a, most_rows}
use Rattle.model.specs.declared.Kind.{Kind}
use Rattle.model.specs.declared.PriceRow.{PriceRow}
use Rattle.buckets.specs.inner.Pass.{unplaced, with_touch, Limited}
use Rattle.buckets.specs.inner.Search.{time_since, touch_bucket, Found}
use Rattle.buckets.specs.declared.Bucket.{Bucket}
use Rattle.buckets.specs.declared.pass.Touch.{Touch}
use Rattle.buckets.specs.declared.search.Reuse.{Reuse}
use Rattle.buckets.proofs.Touches.{placed, placed-is}
use Rattle.c_lists.specs.Recorders.{kind_in}
use Rattle.c_lists.specs.RecorderList.{at_kind, at_a, at_cost, at_volume, at_sizes, at_last, short_in, bucket_at}
use Rattle.c_lists.specs.inner.InPlace.{RowsIn, touch_in, with_bucket, with_filed, with_mark, Room, IsTaken}

-- a touch from its parts
pub touch-told : (l : List ℕ) (i : ℕ) (kind : Kind) (a z mark n : ℕ) (x : Touch) (k : ℕ) → kind ≡ kind_in (get_or l at_kind 0)
    → a ≡ min (get_or l at_a 0) largest_a → z ≡ short_in l (at_sizes + i) → mark ≡ short_in l (at_last + i)
    → x ≡ unplaced kind a z (time_since n mark) → (rows : List PriceRow) → k ≡ touch_bucket rows x.retention x.swap
    → placed x k ≡ touch_in l rows i n
touch-told l i kind a z mark n x k kind-is a_is z-is mark-is is rows bucket =
    placed-is kind a rows z (time_since n mark) x k is bucket ∙ rw (kind-is, a_is, z-is, mark-is) refl

-- a row found among all 64 places is one found among those that the list counts
pub found-counted : (rows : List PriceRow) (x : Reuse) (k n : ℕ) → Found rows x most_rows k 0 → Found rows x n k 0
found-counted rows x k n f =
    record {
      within = f.within;
      parted = λ o. f.parted (record { lasts = o.lasts; beyond = λ j le lt. absurd (omega arith) });
    }

-- a touch put into its bucket, Q and V
pub filed-is : (l : List ℕ) (x : Touch) (kind : Kind) (b more : Bucket) (unit : ℕ) (l1 : List ℕ) → kind ≡ kind_in (get_or l at_kind 0)
    → b ≡ bucket_at l x.bucket → more ≡ with_touch b x → unit ≡ unit_cost kind x.size → l1 ≡ with_bucket l x.bucket more
    → set (set l1 at_cost (get_or l at_cost 0 + unit)) at_volume (get_or l at_volume 0 + x.size) ≡ with_filed l x
filed-is l x kind b more unit l1 kind-is b-is more_is unit_is l1-is = rw (l1-is, more_is, b-is, unit_is, kind-is) refl

-- a reference taken
pub taken_is : (l : List ℕ) (i n : ℕ) (x : Touch) (l1 : List ℕ) → Limited x
    → ((rows : List PriceRow) → RowsIn l rows → x ≡ touch_in l rows i n)
    → (Room (bucket_at l x.bucket) (get_or l at_cost 0) (get_or l at_volume 0) → l1 ≡ with_filed l x)
    → IsTaken l i n (with_mark l1 i (n + 1))
taken_is l i n x l1 limited told filed rows of =
    let e = told rows of in
    (rw e at limited, λ room. ap (λ m. with_mark m i (n + 1)) (filed (rw (← e) at room) ∙ ap (with_filed l) e))
