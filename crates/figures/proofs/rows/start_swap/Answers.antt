-- `figures::rows::start_swap` meets its contract: a warm segment has the mark 0.
use Prim.Native.Nat.{◌*◌, ◌^◌, ◌≤◌}
use native.Mathlib.Omega.{arith}
use borrow.Author.Tests.{eq-eqb, ne_eqb}
use Rattle.model.proofs.Bounds.{product-within}
use Rattle.figures.proofs.rows.start_swap.Goals.{Start}
use Rattle.figures.proofs.rows.start_swap.Goals as goal

fits-product : (c : Start) → c.args.a * c.args.z ≤ 2 ^ 8 * 2 ^ 16
fits-product c = product-within c.args.a c.args.z (2 ^ 8) (2 ^ 16) (omega arith) (omega arith)

pub returns-then-mark-eq0 : goal.returns-then-mark-eq0
returns-then-mark-eq0 c =
    record {
      within = omega (arith, c.swap_cost.ensures, fits-product (goal.at.returns-then-mark-eq0 c).Start);
      exact = rw (eq-eqb c.args.mark 0 c.if-mark-eq0.true) c.swap_cost.ensures;
    }

pub returns : goal.returns
returns c = record { within = omega arith; exact = rw (ne_eqb c.args.mark 0 c.if-mark-eq0.false) }
