-- `c_lists::record_numbers::store_taken` meets its contract.
use borrow.Author.Rules.{rules}
use Rattle.c_lists.specs.Recorders.{lists_of}
use Rattle.c_lists.proofs.record_numbers.store_taken.Goals as goal

pub returns : goal.returns
unfolding lists_of
returns c = search rules
