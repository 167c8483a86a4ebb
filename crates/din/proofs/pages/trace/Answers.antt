-- `trace` meets its contract: k within its range, and the lines.
use mathlib.Core.Path.{sym, ap, ◌∙◌}
use mathlib.Core.Logic.{⊎_elim}
use native.Mathlib.Omega.{arith}
use Rattle.din.specs.inner.Held.{imported_of}
use Rattle.din.proofs.Powers.{power-low, power-high, power-within}
use Rattle.din.proofs.pages.trace.Goals as goal

pub returns-then-k-lt-MIN_POWER : goal.returns-then-k-lt-MIN_POWER
unfolding imported_of
returns-then-k-lt-MIN_POWER c =
    let k = c.args.k in
    let bytes = c.args.bytes.now in
    ap imported_of (sym (⊎_elim (power-low k bytes) (λ high. power-high k bytes high.0 high.1) c.then-k-lt-MIN_POWER.either))

pub returns : goal.returns
returns c = c.lines.ensures ∙ ap imported_of (sym (power-within c.args.k c.args.bytes.now (omega arith) (omega arith)))
