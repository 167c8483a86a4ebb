-- `buckets::search::Prices::unkept` meets its contract.
use mathlib.Core.Path.{refl, ◌∙◌}
use Rattle.buckets.proofs.Rounds.{look_is}
use Rattle.buckets.proofs.search.Prices.unkept.Goals as goal

pub returns-then-kept : goal.returns-then-kept
returns-then-kept c =
    rw (look_is _ _ _ _ _ c.priced-memory.ensures c.priced-load.ensures c.kept.ensures ∙ c.if-kept.true)
    refl

pub returns-else-kept : goal.returns-else-kept
returns-else-kept c =
    rw (look_is _ _ _ _ _ c.priced-memory.ensures c.priced-load.ensures c.kept.ensures ∙ c.if-kept.false)
    refl
