-- `page::write` meets its contract: a place that is too short stays, and else the pages are put at its front.
use mathlib.Core.Path.{◌≡◌, sym, ◌∙◌}
use native.Mathlib.Omega.{arith}
use lib.ListN.{length}
use Rattle.model.proofs.Places.{text-short}
use Rattle.text.proofs.Placing.{text-put}
use Rattle.page.specs.Page.{pages}
use Rattle.page.proofs.Lines.{each-length}
use Rattle.page.proofs.write.Goals.{After-pages_length}
use Rattle.page.proofs.write.Goals as goal

-- the pages have the length that is told
told : (p : After-pages_length) → (let a = p.args in p.pages_length.result ≡ length (pages a.kind a.a a.rows.now))
told p =
    let a = p.args in
    p.pages_length.ensures ∙ sym (each-length a.kind a.a a.rows.now (omega (arith, p.ranges)) p.requires.0 p.requires.1)

pub returns-then-out-pages_length : goal.returns-then-out-pages_length
returns-then-out-pages_length c =
    text-short _ _ (omega (arith, told (goal.at.returns-then-out-pages_length c).After-pages_length, c.if-out-pages_length.true))

pub returns : goal.returns
returns c = let p = c.put_pages.ensures in text-put _ _ _ _ _ (omega (arith, p.ends)) p
