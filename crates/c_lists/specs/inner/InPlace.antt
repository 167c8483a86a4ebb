-- What the functions that change a recorder's list in place give, number by number.
use Rattle.std.specs.Prelude.{ℕ, ◌+◌, ◌*◌, ◌^◌, ◌≤◌, min, ◌≡◌, List, get_or, set}
use Rattle.model.specs.Costs.{unit_cost}
use Rattle.model.specs.Sheets.{largest_a, most_rows}
use Rattle.model.specs.Sums.{tabulate}
use Rattle.model.specs.declared.PriceRow.{PriceRow}
use Rattle.buckets.specs.inner.Pass.{touch_of, with_touch, Limited, Within}
use Rattle.buckets.specs.inner.Search.{RowsOf, time_since}
use Rattle.buckets.specs.declared.Bucket.{Bucket}
use Rattle.buckets.specs.declared.pass.Touch.{Touch}
use Rattle.buckets.specs.declared.search.Prices.{Prices}
use Rattle.c_lists.specs.Recorders.{kind_in}
use Rattle.c_lists.specs.RecorderList.{at_kind, at_a, at_rows, at_steps, at_cost, at_volume, at_sizes, at_last, at_sums}
use Rattle.c_lists.specs.RecorderList.{short_in, row_of, bucket_at}

-- the prices of the rows that a list counts, and those in all 64 places
abbrev pub prices_in : List ℕ → Prices
prices_in l = record { count = get_or l at_rows 0; rows = tabulate most_rows (row_of l) }

abbrev pub places_in : List ℕ → Prices
places_in l = record { count = most_rows; rows = tabulate most_rows (row_of l) }

-- the touch of segment i after n steps that the numbers of a list tell, for these rows
abbrev pub touch_in : List ℕ → List PriceRow → ℕ → ℕ → Touch
touch_in l rows i n =
    touch_of (kind_in (get_or l at_kind 0)) (min (get_or l at_a 0) largest_a) rows (short_in l (at_sizes + i))
    (time_since n (short_in l (at_last + i)))

-- the rows with the prices of a list
abbrev pub RowsIn : List ℕ → List PriceRow → Type 0
RowsIn l rows = RowsOf (prices_in l) rows

-- a list with the six sums of a bucket from a place on; with bucket k
abbrev pub with_sums : List ℕ → ℕ → Bucket → List ℕ
with_sums l at b =
    set
    (set
    (set
    (set
    (set
    (set l at b.count)
    (at + 1) b.volume)
    (at + 2) b.retention.0)
    (at + 3) b.swap.0)
    (at + 4) b.retentionz.0)
    (at + 5) b.swapz.0

abbrev pub with_bucket : List ℕ → ℕ → Bucket → List ℕ
with_bucket l k b = with_sums l (at_sums + 6 * k) b

-- there is room in a bucket, Q and V for one touch more
pub record Room (b : Bucket) (cost volume : ℕ) : Type 0 where
  pub sums : Within b (2 ^ 60)
  pub cost_room : cost ≤ 2 ^ 60
  pub volume_room : volume ≤ 2 ^ 60

-- a list with a touch in its bucket, in Q and in V
abbrev pub with_filed : List ℕ → Touch → List ℕ
with_filed l x =
    set
    (set (with_bucket l x.bucket (with_touch (bucket_at l x.bucket) x)) at_cost
    (get_or l at_cost 0 + unit_cost (kind_in (get_or l at_kind 0)) x.size))
    at_volume
    (get_or l at_volume 0 + x.size)

-- a list with segment i touched in a step
abbrev pub with_mark : List ℕ → ℕ → ℕ → List ℕ
with_mark l i step = set (set l (at_last + i) step) at_steps step

-- l' is the list l with a touch of segment i after n steps, where there is room
abbrev pub IsTaken : List ℕ → ℕ → ℕ → List ℕ → Type 0
IsTaken l i n l' =
    (rows : List PriceRow) → RowsIn l rows
    → Limited (touch_in l rows i n)
    × (Room (bucket_at l (touch_in l rows i n).bucket) (get_or l at_cost 0) (get_or l at_volume 0)
    → l' ≡ with_mark (with_filed l (touch_in l rows i n)) i (n + 1))
