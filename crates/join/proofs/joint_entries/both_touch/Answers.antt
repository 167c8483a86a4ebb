-- `both_touch` meets its contract: a search through the steps in which both have an entry.
use mathlib.Core.Path.{◌∙◌}
use native.Mathlib.Omega.{arith}
use borrow.Author.Rules.{rules}
use borrow.Author.Tests.{tests}
use Rattle.std.proofs.lemmas.Iterator.{YieldsList-from_slice, YieldsList-from_zip}
use Rattle.std.proofs.lemmas.Iterator.Search.{any_from_yields_List}
use Rattle.join.proofs.Entries.{both_at, both-any}
use Rattle.join.proofs.joint_entries.both_touch.Goals as goal

pub returns : goal.returns
returns c =
    let xs = c.args.xs.now in
    let ys = c.args.ys.now in
    any_from_yields_List both_at c.any.new.self _ _ c.any.ensures.ran (YieldsList-from_zip (YieldsList-from_slice xs cc) (YieldsList-from_slice ys cc))
    (λ x b q k. search (rules, tests))
    ∙ both-any xs ys _ (omega arith)
