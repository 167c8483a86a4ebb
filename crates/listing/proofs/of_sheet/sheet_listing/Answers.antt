-- `listing::of_sheet::sheet_listing` meets its contract: the listing is that of the sheet's value.
use Prim.Native.Nat.{ℕ, ◌<◌}
use mathlib.Core.Path.{◌≡◌, ◌∙◌}
use mathlib.Core.Logic.{inl, inr}
use mathlib.Core.Bool.{true}
use native.Mathlib.Omega.{arith}
use lib.Dec.{leb}
use lib.ListN.{get_or, length-take}
use Rattle.model.specs.Values.{value_of}
use Rattle.stores.specs.Rows.{row_modtotal}
use Rattle.listing.proofs.SheetListing.{totals-of, listing-of, listing-fits}
use Rattle.listing.proofs.of_sheet.sheet_listing.Goals.{Joined-has_modtotal, then-has_modtotal, else-has_modtotal}
use Rattle.listing.proofs.of_sheet.sheet_listing.Goals as goal

-- the modtotals handed on, where the form has them
totals : (j : Joined-has_modtotal) → leb 4 j.args.s.form ≡ true → (r : ℕ) → r < j.args.s.head.rows
    → get_or j.if-has_modtotal.totals r 0 ≡ row_modtotal (value_of j.args.s) r
totals j =
    totals-of j.args.s j.requires j.if-has_modtotal.totals j.has_modtotal.result j.has_modtotal.ensures
    (elim j.if-has_modtotal.branch [
      | then-has_modtotal w ↦ inl (w.totals-is ∙ w.all_modtotals-totals.ensures)
      | else-has_modtotal w ↦ inr w.if-has_modtotal.false
    ])

pub write-requires : goal.write-requires
write-requires c = (
  simp length-take (omega (arith, c.requires.rows_within)),
  rw (
    c.all_figures-all.ensures,
    c.sheet_refs-refs.ensures,
    listing-of c.args.s c.requires c.if-has_modtotal.totals
        (totals (goal.at.write-requires c).Joined-has_modtotal),
  )
      (listing-fits c.args.s c.requires),
)

pub returns : goal.returns
returns c =
    rw (
      c.all_figures-all.ensures,
      c.sheet_refs-refs.ensures,
      listing-of c.args.s c.requires c.if-has_modtotal.totals
          (totals (goal.at.returns c).Joined-has_modtotal),
    )
    at c.write.ensures
