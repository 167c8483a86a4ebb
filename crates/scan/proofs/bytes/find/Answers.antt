-- `scan::bytes::find` meets its contract: the first byte that is `c`, if any.
use lib.Dec.{eqb}
use Rattle.std.proofs.Common.{rules, tests}
use Rattle.std.proofs.lemmas.Iterator.{YieldsList-from_slice}
use Rattle.std.proofs.lemmas.Iterator.Search.{position_from_yields_List}
use Rattle.scan.proofs.Splits.{place-if-any}
use Rattle.scan.proofs.bytes.find.Goals as goal

pub returns : goal.returns
returns c =
    place-if-any _ _ _
    (position_from_yields_List (λ b. eqb b c.args.c) _ _ c.position.result c.position.ensures.ran
    (YieldsList-from_slice _ c.iter.ensures.rest) (λ x b q k. search (rules, tests)))
