-- What the billing call answers, by its tests, and that what it bills is within what the tariff takes.
use Rattle.std.specs.Prelude.{Ok, Err}
use Prim.Native.Nat.{ℕ, ◌^◌, ◌≤◌, ◌<◌}
use mathlib.Core.Path.{◌≡◌, ap}
use mathlib.Core.Bool.{true, false}
use lib.ListN.{length}
use borrow.Author.Tests.{le-ltb, lt-ltb}
use Rattle.model.specs.Rows.{row_figures}
use Rattle.model.specs.Sheets.{SheetValue, Valid, trace_of, row_at}
use Rattle.model.specs.declared.Refusal.TheVariants.{NoSuchRow, TariffOutOfRange}
use Rattle.model.specs.declared.RowFigures.{RowFigures}
use Rattle.tariff.specs.Tariff.{tariff_in_range, bill_of}
use Rattle.tariff.specs.declared.Cents.{Cents}
use Rattle.tariff.specs.declared.Tariff.{Tariff}
use Rattle.model.specs.RowAnswers.{figures_at}
use Rattle.figures.proofs.Limits.{optmem_within, load_within}
use Rattle.tariff.specs.Billing.{row_bill, bill_for}

module _ (v : SheetValue) (r : ℕ) (t : Tariff) where
  pub bill-no-row : length v.head.rows ≤ r → bill_for v r t ≡ Err NoSuchRow
  unfolding bill_for
  bill-no-row le = rw (le-ltb r (length v.head.rows) le)

  pub bill-out-of-range : r < length v.head.rows → tariff_in_range t ≡ false → bill_for v r t ≡ Err TariffOutOfRange
  unfolding bill_for row_bill
  bill-out-of-range lt out = rw (lt-ltb r (length v.head.rows) lt, out)

  -- the bill of the row's figures
  module _ (f : RowFigures) (e : f ≡ figures_at v r) where
    pub bill-at : {cents : Cents} → r < length v.head.rows → tariff_in_range t ≡ true → cents.0 ≡ bill_of t f.optmem.0 f.load.0
        → Ok cents ≡ bill_for v r t
    unfolding bill_for row_bill row_figures
    bill-at lt fit bill =
        rw (lt-ltb r (length v.head.rows) lt, fit) (ap (λ n. Ok (record { 0 = n })) (rw e at bill))

    -- which are within what the tariff takes
    pub bill-within : Valid v → (f.optmem.0 < 2 ^ 40) × (f.load.0 < 2 ^ 40)
    unfolding row_figures
    bill-within c = rw e (
      optmem_within (trace_of v) c.run (row_at v r).h (row_at v r).d,
      load_within (trace_of v) c.run
          (row_at v r).h (row_at v r).d,
    )
