-- `lru_curve::frames::all_ones` meets its contract: what the library's `all` says of the test is the definition.
use mathlib.Core.Path.{◌∙◌}
use borrow.Author.Rules.{rules}
use borrow.Author.Tests.{tests}
use lib.Dec.{eqb}
use Rattle.std.proofs.lemmas.Iterator.{YieldsList-from_slice}
use Rattle.std.proofs.lemmas.Iterator.Search.{all_from_yields_List}
use Rattle.lru_curve.proofs.Ones.{ones-listed}
use Rattle.lru_curve.proofs.frames.all_ones.Goals as goal

pub returns : goal.returns
returns c =
    all_from_yields_List (λ z. eqb z 1) _ _ _ c.all.ensures.ran (YieldsList-from_slice c.args.sizes.now cc)
    (λ x b q k. search (rules, tests)) ∙ ones-listed c.args.sizes.now
