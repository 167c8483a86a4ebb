-- `page::sheet_page` meets its contract: the page is that of the sheet's value, and every field fits.
use native.Mathlib.Omega.{arith}
use lib.ListN.{length-take}
use Rattle.model.specs.Values.{value_of}
use Rattle.model.proofs.Standing.{rows-counted}
use Rattle.page.proofs.SheetPage.{page-fits, pages-of}
use Rattle.page.proofs.sheet_page.Goals as goal

pub write-requires : goal.write-requires
write-requires c =
    let f = c.all_figures-all.ensures in (
      simp length-take (omega (arith, c.requires.rows_within)),
      page-fits (value_of c.args.s) c.requires.valid (rows-counted c.args.s c.requires) f,
    )

pub returns : goal.returns
returns c =
    rw (c.all_figures-all.ensures, pages-of c.args.s c.requires) at c.write.ensures
