-- `home` meets its contract: the product fits, and the rest is the definition's.
use borrow.Author.Rules.{rules}
use Rattle.din.specs.inner.Held.{home_of}
use Rattle.din.proofs.pages.home.Goals as goal

pub returns : goal.returns
unfolding home_of
returns c = search rules
