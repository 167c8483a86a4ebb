-- `page::put_names` meets its contract: the line is the text that is put.
use native.Mathlib.Omega.{arith}
use Rattle.page.specs.Page.{names_line, page_line, columns}
use Rattle.page.proofs.put_names.Goals as goal

pub returns : goal.returns
unfolding names_line page_line columns
returns c = let p = c.put.ensures in record { put = p; wide = omega (arith, p.ends) }
