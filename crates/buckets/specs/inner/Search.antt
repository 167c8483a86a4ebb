-- What the functions of the search give: the prices of the rows in two lists, and the first row that keeps a reuse, looked for in rounds.
use Rattle.std.specs.Prelude.{ℕ, ◌+◌, ◌-◌, ◌*◌, ◌^◌, ◌≤◌, ◌<◌, ◌≡◌, Bool, true, false, cond, List, leb, length, Option, None, Some}
use Rattle.std.proofs.Math.Option.{Option as Maybe, none, some}
use Rattle.model.specs.Costs.{keeps}
use Rattle.model.specs.Sheets.{RowsWithin, most_rows, row_in}
use Rattle.model.specs.Sums.{tabulate}
use Rattle.model.specs.declared.LoadUnits.{LoadUnits}
use Rattle.model.specs.declared.MemoryUnits.{MemoryUnits}
use Rattle.model.specs.declared.PriceRow.{PriceRow}
use Rattle.buckets.specs.FirstRow.{last_bucket, first_row}
use Rattle.buckets.specs.declared.search.Prices.{Prices}
use Rattle.buckets.specs.declared.search.Reuse.{Reuse}

-- the unreferenced time after n steps of a segment whose entry in the table of last touches is `mark`; untouched is past every step
abbrev pub time_since : ℕ → ℕ → Maybe ℕ
time_since n mark = cond (leb mark n) (some (n - mark)) none

-- rows in 64 places; beyond the last a place without prices
unfoldable pub in_places : List PriceRow → List PriceRow
in_places rows = tabulate most_rows (row_in rows)

-- the prices of n rows
abbrev pub prices_of : ℕ → List PriceRow → Prices
prices_of n rows = record { count = n; rows = in_places rows }

-- rows such as a sheet has, with these prices
pub record RowsOf (p : Prices) (rows : List PriceRow) : Type 0 where
  pub priced : p.rows ≡ in_places rows
  pub within : RowsWithin rows
  pub counted : length rows ≡ p.count

-- what keeping a segment until its touch costs: a first touch has no retention, which counts as 0
abbrev pub retained : Option MemoryUnits → ℕ
retained None = 0
retained (Some R) = R.0

-- row r keeps a reuse; one beyond the last costs nothing, and keeps all
abbrev pub kept_at : List PriceRow → Reuse → ℕ → Bool
kept_at rows x r = keeps ((row_in rows r).d * x.retention.0) ((row_in rows r).h * x.swap.0)

-- a retention and a swap cost that can be priced
pub record Priceable (R w : ℕ) : Type 0 where
  pub retention_within : R < 2 ^ 40
  pub swap_within : w < 2 ^ 40

-- what holds of one of n rows holds of each later one
abbrev pub Lasts : (ℕ → Bool) → ℕ → Type 0
Lasts holds n = (i j : ℕ) → i ≤ j → j < n → holds i ≡ true → holds j ≡ true

-- the rows of which it holds begin at row lo or one of the n after it
pub record Parted (holds : ℕ → Bool) (lo n : ℕ) : Type 0 where
  pub below : (j : ℕ) → j < lo → holds j ≡ false
  pub above : (j : ℕ) → lo + n ≤ j → j < most_rows → holds j ≡ true

-- the rows that keep a reuse are the last ones, and all beyond the first `count` are among them
pub record Ordered (rows : List PriceRow) (x : Reuse) (count : ℕ) : Type 0 where
  pub lasts : Lasts (kept_at rows x) most_rows
  pub beyond : (j : ℕ) → count ≤ j → j < most_rows → kept_at rows x j ≡ true

-- a round: where the rows that keep the reuse begin at lo or one of the n after it, they begin at r or one of the s after it
pub record Narrows (rows : List PriceRow) (x : Reuse) (lo n r s : ℕ) : Type 0 where
  pub within : r + s ≤ lo + n
  pub parted : Lasts (kept_at rows x) most_rows → Parted (kept_at rows x) lo n → Parted (kept_at rows x) r s

-- a row found so far: it and the n after it are within 64, and the rows that keep the reuse begin there
pub record Found (rows : List PriceRow) (x : Reuse) (count lo n : ℕ) : Type 0 where
  pub within : lo + n ≤ most_rows
  pub parted : Ordered rows x count → Parted (kept_at rows x) lo n

-- k is the first of the rows with these prices that keeps a reuse, and the last bucket where none does
abbrev pub IsFirstRow : Prices → Reuse → ℕ → Type 0
IsFirstRow p x k = (rows : List PriceRow) → RowsOf p rows → k ≡ first_row rows 0 x.retention.0 x.swap.0

-- the bucket of a touch among rows: of a reuse, which has a retention, that of the first row that keeps it, and else the last
abbrev pub touch_bucket : List PriceRow → Option MemoryUnits → LoadUnits → ℕ
touch_bucket rows None w = last_bucket
touch_bucket rows (Some R) w = first_row rows 0 R.0 w.0

-- k is that bucket, for the rows with these prices; and for rows such as a sheet has
abbrev pub IsBucket : Prices → Option MemoryUnits → LoadUnits → ℕ → Type 0
IsBucket p R w k = (rows : List PriceRow) → RowsOf p rows → k ≡ touch_bucket rows R w

abbrev pub IsTouchBucket : List PriceRow → Option MemoryUnits → LoadUnits → ℕ → Type 0
IsTouchBucket rows R w k = RowsWithin rows → k ≡ touch_bucket rows R w
