-- The figures of a row do not depend on the other rows: they are those of the sheet with this row alone.
use Prim.Native.Nat.{ℕ, zero, suc, ◌≤◌, ◌<◌}
use mathlib.Core.Path.{◌≡◌}
use mathlib.Core.List.{List, [], ◌∷◌}
use native.Mathlib.Omega.{arith}
use lib.ListN.{length, get_or}
use Rattle.model.specs.Sheets.{SheetValue, RowsWithin, row_in, row_at, largest_price}
use Rattle.model.specs.declared.PriceRow.{PriceRow}
use Rattle.model.specs.declared.RowFigures.{RowFigures}
use Rattle.model.specs.RowAnswers.{figures_at, all_figures}
use Rattle.model.proofs.RowAnswers.{figures-at}

-- one of the rows alone is within the limits
pub row-alone-within : (rows : List PriceRow) → RowsWithin rows → (r : ℕ) → r < length rows → RowsWithin (row_in rows r ∷ [])
row-alone-within rows within r lt =
    record {
      some_rows = omega arith;
      rows_within = omega arith;
      h_within = λ q l. h-at q (omega arith);
      some_d = λ q l. some_at q (omega arith);
      d_within = λ q l. d-at q (omega arith);
      ascending = λ q l. absurd (omega arith);
    }
  where
    h-at : (q : ℕ) → q < 1 → (row_in (row_in rows r ∷ []) q).h ≤ largest_price
    h-at zero l = within.h_within r lt
    h-at (suc q) l = absurd (omega arith)

    some_at : (q : ℕ) → q < 1 → 1 ≤ (row_in (row_in rows r ∷ []) q).d
    some_at zero l = within.some_d r lt
    some_at (suc q) l = absurd (omega arith)

    d-at : (q : ℕ) → q < 1 → (row_in (row_in rows r ∷ []) q).d ≤ largest_price
    d-at zero l = within.d_within r lt
    d-at (suc q) l = absurd (omega arith)

-- a sheet with a row q alone
abbrev pub with_row : SheetValue → PriceRow → SheetValue
with_row v q =
    record {
      form = v.form;
      head = record { kind = v.head.kind; a = v.head.a; sizes = v.head.sizes; rows = q ∷ []; warm = v.head.warm };
      entries = v.entries;
      marks = v.marks;
    }

-- with row r alone
abbrev pub alone : SheetValue → ℕ → SheetValue
alone v r = with_row v (row_at v r)

pub alone-figures : (v : SheetValue) (r : ℕ) (d : RowFigures) → get_or (all_figures (alone v r)) 0 d ≡ figures_at v r
alone-figures v r d = figures-at (alone v r) 0 d (omega arith) (omega arith)
