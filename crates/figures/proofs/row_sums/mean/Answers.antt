-- `figures::row_sums::mean` meets its contract: wsocc is below 2 ^ 53, and the divisor is not 0 since d is not.
use Prim.Native.Nat.{◌*◌, ◌^◌, ◌≤◌}
use native.Mathlib.Nat.{mul-pos}
use native.Mathlib.Omega.{arith}
use borrow.Author.Tests.{eq-eqb, ne_eqb}
use Rattle.model.proofs.Bounds.{product-within}
use Rattle.figures.proofs.row_sums.mean.Goals.{Start}
use Rattle.figures.proofs.row_sums.mean.Goals as goal

divisor-fits : (c : Start) → c.args.d * c.args.refs ≤ 2 ^ 16 * 2 ^ 11
divisor-fits c = product-within c.args.d c.args.refs (2 ^ 16) (2 ^ 11) (omega arith) (omega arith)

pub overflow_mul-result-else-refs-eq0 : goal.overflow_mul-result-else-refs-eq0
overflow_mul-result-else-refs-eq0 c = omega (arith, divisor-fits (goal.at.overflow_mul-result-else-refs-eq0 c).Start)

pub nonzero_div-result : goal.nonzero_div-result
nonzero_div-result c = mul-pos (omega arith) (omega arith)

pub returns-then-refs-eq0 : goal.returns-then-refs-eq0
returns-then-refs-eq0 c = rw (eq-eqb c.args.refs 0 c.if-refs-eq0.true)

pub returns-else-refs-eq0 : goal.returns-else-refs-eq0
returns-else-refs-eq0 c = rw (ne_eqb c.args.refs 0 c.if-refs-eq0.false)
