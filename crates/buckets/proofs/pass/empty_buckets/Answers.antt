-- `pass::empty_buckets` meets its contract.
use borrow.Author.Rules.{rules}
use Rattle.buckets.specs.Buckets.{all_empty}
use Rattle.buckets.proofs.pass.empty_buckets.Goals as goal

pub returns : goal.returns
unfolding all_empty
returns c = search rules
