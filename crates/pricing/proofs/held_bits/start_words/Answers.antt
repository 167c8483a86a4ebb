-- `start_words` meets its contract: number m has the bytes from 8 × m on.
use Rattle.pricing.proofs.Held.{words-bits}
use Rattle.pricing.proofs.held_bits.start_words.Goals as goal

pub returns-clause-bits : goal.returns-clause-bits
returns-clause-bits c =
    words-bits c.args.mask.now _ _ _ _ c.joined.ensures c.joined-2.ensures
    c.joined-3.ensures c.joined-4.ensures
