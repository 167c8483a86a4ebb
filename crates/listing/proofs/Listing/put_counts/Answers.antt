-- `listing::Listing::put_counts` meets its contract: refs= is put, and where the form has it steps= after it.
use mathlib.Core.Path.{sym, ◌∙◌}
use native.Mathlib.Omega.{arith}
use Rattle.text.proofs.Putting.{put_then, put_same}
use Rattle.listing.proofs.ListingParts.{counts_with, counts-without, counts-length, counts-with-length}
use Rattle.listing.proofs.Listing.put_counts.Goals as goal

pub put_number-second-requires : goal.put_number-second-requires
put_number-second-requires c =
    let a = c.args.self.now in
    omega (arith, counts-length a.form a.refs a.steps)

pub put_number-requires : goal.put_number-requires
put_number-requires c =
    let a = c.args.self.now in
    let l = counts-with-length a.form a.refs a.steps (sym c.has_steps.ensures ∙ c.if-has_steps.true) in
    omega (arith, l, c.requires, c.put_number-second.ensures.ends)

pub returns-then-has_steps : goal.returns-then-has_steps
returns-then-has_steps c =
    let a = c.args.self.now in
    put_same (sym (counts_with a.form a.refs a.steps (sym c.has_steps.ensures ∙ c.if-has_steps.true)))
    (put_then c.put_number-second.ensures c.put_number.ensures)

pub returns : goal.returns
returns c =
    let a = c.args.self.now in
    put_same (sym (counts-without a.form a.refs a.steps (sym c.has_steps.ensures ∙ c.if-has_steps.false))) c.put_number-second.ensures
