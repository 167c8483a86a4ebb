-- The prices of the rows in 64 places: they tell which rows keep a reuse; where the rows that do begin is the first row.
use Prim.Native.Nat.{ℕ, ◌-◌, ◌*◌, ◌≤◌, ◌<◌}
use mathlib.Core.Path.{◌≡◌, refl, sym, ap, ◌∙◌}
use mathlib.Core.Logic.{◌⊎◌, inl, inr, ⊎_elim}
use mathlib.Core.Bool.{true, false}
use mathlib.Core.List.{List, [], ◌++◌, append-nil}
use native.Mathlib.Omega.{arith}
use lib.Dec.{ltb}
use lib.ListN.{length, take, drop, replicate, length-append, length-drop}
use lib.ListN.{drop_of_length-le, length-replicate, get_or-append, get_or-replicate, get_or-eq_default}
use lib.Seq.{ext_get_or, get_or-append_right, length-take-le}
use borrow.Table.Steps.{cases}
use borrow.Author.Tests.{le-leb, ltb-true, ltb-false}
use Rattle.model.specs.Sheets.{RowsWithin, row_in, most_rows}
use Rattle.model.specs.Sums.{tabulate}
use Rattle.model.specs.declared.PriceRow.{PriceRow}
use Rattle.model.proofs.Tables.{length-tabulate, get_or-tabulate}
use Rattle.buckets.specs.FirstRow.{first_row, last_bucket}
use Rattle.buckets.specs.inner.Search.{in_places, prices_of, RowsOf, kept_at, Lasts, Ordered, Found}
use Rattle.buckets.specs.declared.search.Prices.{Prices}
use Rattle.buckets.specs.declared.search.Reuse.{Reuse}
use Rattle.buckets.proofs.FirstRow.{keeps_at, keeps-after, first-row-found, first-row-none}

-- what stands beyond the last row
abbrev no_row : PriceRow
no_row = record { h = 0; d = 0 }

beyond : (rows : List PriceRow) (r : ℕ) → length rows ≤ r → row_in rows r ≡ no_row
beyond rows r le = get_or-eq_default rows no_row le

-- a place among the first n, or beyond
among : (r n : ℕ) → (r < n) ⊎ (n ≤ r)
among r n = cases (ltb r n) (λ e. inl (ltb-true r n e)) (λ e. inr (ltb-false r n e))

-- the first n rows, and places without prices after them
in-places-is : (n : ℕ) (rows : List PriceRow) → n ≤ length rows → n ≤ most_rows
    → take n rows ++ replicate (most_rows - n) no_row ≡ in_places (take n rows)
unfolding in_places
in-places-is n rows le few =
    let these = take n rows in
    let others = replicate (most_rows - n) no_row in
    let counted : length these ≡ n = length-take-le n rows le in
    let all : length (these ++ others) ≡ most_rows =
    omega (arith, length-append these others, counted, length-replicate (most_rows - n) no_row) in
    ext_get_or no_row (these ++ others) (tabulate most_rows (row_in these)) (all ∙ sym (length-tabulate most_rows (row_in these)))
    (λ r lt.
    ⊎_elim (λ l. get_or-append these others no_row r l)
    (λ l.
    get_or-append_right these others r no_row l
    ∙ get_or-replicate (most_rows - n) (r - length these) no_row no_row (omega (arith, lt, all, counted))
    ∙ sym (beyond these r l))
    (among r (length these))
    ∙ sym (get_or-tabulate most_rows (row_in these) r no_row (omega (arith, lt, all))))

-- 64 places of which those from the n-th on were emptied
pub emptied-is : (n : ℕ) (rows others : List PriceRow) → length rows ≡ most_rows → n ≤ most_rows
    → others ≡ replicate (length (take (most_rows - n) (drop n rows))) no_row
    → take n rows ++ (others ++ drop (most_rows - n) (drop n rows)) ≡ in_places (take n rows)
emptied-is n rows others whole few are =
    let past : drop (most_rows - n) (drop n rows) ≡ [] =
    drop_of_length-le (drop n rows) (omega (arith, length-drop n rows, whole)) in
    let left : length (take (most_rows - n) (drop n rows)) ≡ most_rows - n =
    length-take-le (most_rows - n) (drop n rows) (omega (arith, length-drop n rows, whole)) in
    rw (are, past, left, append-nil) (in-places-is n rows (omega arith) few)

-- the prices of the first n rows, where they are such as a sheet has
pub prices-of : (n : ℕ) (prices : List PriceRow) (p : Prices) → n ≤ length prices → RowsWithin (take n prices)
    → p ≡ prices_of n (take n prices) → RowsOf p (take n prices)
prices-of n prices p le up is =
    record {
      priced = ap (λ (q : Prices). q.rows) is;
      within = up;
      counted = length-take-le n prices le ∙ sym (ap (λ (q : Prices). q.count) is);
    }

-- the rows that keep a reuse, from the prices
module _ (p : Prices) (rows : List PriceRow) (of : RowsOf p rows) (x : Reuse) where
  kept_is : (r : ℕ) → r < most_rows → kept_at p.rows x r ≡ keeps_at rows x.retention.0 x.swap.0 r
  unfolding in_places
  kept_is r lt = rw (of.priced, get_or-tabulate most_rows (row_in rows) r no_row lt) refl

  -- one beyond the last keeps all
  keeps-beyond : (r : ℕ) → length rows ≤ r → keeps_at rows x.retention.0 x.swap.0 r ≡ true
  keeps-beyond r le = rw (beyond rows r le) (le-leb (0 * x.retention.0) (0 * x.swap.0) (omega arith))

  -- so what a row keeps, each later one keeps
  rows_last : Lasts (kept_at p.rows x) most_rows
  rows_last i j le lt e =
      kept_is j lt
      ∙ ⊎_elim
      (λ l. keeps-after rows of.within x.retention.0 x.swap.0 i j le l (sym (kept_is i (omega arith)) ∙ e))
      (λ l. keeps-beyond j l)
      (among j (length rows))

  rows-ordered : Ordered p.rows x p.count
  rows-ordered =
      record { lasts = rows_last; beyond = λ j le lt. kept_is j lt ∙ keeps-beyond j (omega (arith, of.counted)) }

  -- the place found is the first row; beyond the rows where none keeps it
  module _ (k : ℕ) (found : Found p.rows x p.count k 0) where
    fails : (j : ℕ) → j < k → j < most_rows → keeps_at rows x.retention.0 x.swap.0 j ≡ false
    fails j l lt = sym (kept_is j lt) ∙ (found.parted rows-ordered).below j l

    pub found-row : k < p.count → k ≡ first_row rows 0 x.retention.0 x.swap.0
    found-row lt =
        let here : k < most_rows = omega (arith, of.counted, of.within.rows_within) in
        omega (
          arith,
          first-row-found rows 0 x.retention.0 x.swap.0 k (omega (arith, of.counted)) (λ j l. fails j l (omega arith))
              (sym (kept_is k here) ∙ (found.parted rows-ordered).above k (omega arith) here),
        )

    pub found_none : p.count ≤ k → last_bucket ≡ first_row rows 0 x.retention.0 x.swap.0
    found_none le =
        sym (first-row-none rows 0 x.retention.0 x.swap.0
        (λ j l. fails j (omega (arith, of.counted)) (omega (arith, of.within.rows_within))))
