-- `lru_curve::plain_frames::frame_of` meets its contract: the place that the library's `position` gives is the first that has the segment.
use borrow.Author.Rules.{rules}
use borrow.Author.Tests.{tests}
use lib.Dec.{eqb}
use Rattle.std.proofs.lemmas.Iterator.{YieldsList-from_slice}
use Rattle.std.proofs.lemmas.Iterator.Search.{position_from_yields_List}
use Rattle.lru_curve.proofs.Indexes.{position-index}
use Rattle.lru_curve.proofs.plain_frames.frame_of.Goals as goal

pub returns : goal.returns
returns c =
    let x = c.args.x in
    position-index x c.args.used.now _
    (position_from_yields_List (λ y. eqb y x) _ _ _ c.position.ensures.ran (YieldsList-from_slice c.args.used.now cc)
    (λ y b q k. search (rules, tests)))
