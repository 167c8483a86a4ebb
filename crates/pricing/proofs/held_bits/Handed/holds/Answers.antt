-- `holds` meets its contract: segment i is bit i % 8 of byte i / 8.
use mathlib.Core.Path.{sym, ◌∙◌}
use native.Mathlib.Omega.{arith}
use Rattle.pricing.proofs.Held.{held_start, held-byte}
use Rattle.pricing.proofs.held_bits.Handed.holds.Goals as goal

pub returns-then-t-gt0 : goal.returns-then-t-gt0
returns-then-t-gt0 c = c.holds.ensures ∙ sym (held-byte _ _ _ _ (λ e. omega (arith, c.if-t-gt0.true)))

pub returns : goal.returns
returns c = sym (held_start _ _ _ _ (omega (arith, c.if-t-gt0.false)))
