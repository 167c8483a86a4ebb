-- `word_at` meets its contract.
use mathlib.Core.Path.{sym, ◌∙◌}
use Rattle.pricing.proofs.Held.{word-start, held_word}
use Rattle.pricing.proofs.held_bits.Handed.word_at.Goals as goal

pub returns-then-t-eq0 : goal.returns-then-t-eq0
returns-then-t-eq0 c = λ k lt. sym (word-start _ _ _ _ k lt c.if-t-eq0.true)

pub returns : goal.returns
returns c = λ k lt. c.joined.ensures k lt ∙ sym (held_word _ _ _ _ k c.if-t-eq0.false)
