-- `figures::rows::start_swaps` meets its contract. The loop's invariant: the sums are those of the warm segments among the first i, and no
-- larger than i times what one adds.
use Prim.Native.Nat.{ℕ, ◌*◌, ◌^◌, ◌≤◌, ◌<◌}
use mathlib.Core.Path.{◌≡◌, sym, ◌∙◌}
use native.Mathlib.Omega.{arith}
use borrow.Author.Rules.{rules}
use borrow.Author.Tests.{eqb-true}
use lib.ListN.{length, get_or, length-append}
use Rattle.std.proofs.lemmas.Slice.Zip.{zip_turn, zip_end}
use Rattle.model.proofs.Bounds.{product-within}
use Rattle.figures.proofs.Starts.{swaps-cold, swaps-none, swaps-more}
use Rattle.figures.proofs.rows.start_swaps.Goals.{After-start_swap-w}
use Rattle.figures.proofs.rows.start_swaps.Goals as goal

-- the pair of the turn: the size and the mark of the segment after those passed
pair : (c : After-start_swap-w) → (length c.loop-z.yielded < length c.args.sizes.now)
    × (length c.loop-z.yielded < length c.start_table-table.result)
    × ((d : ℕ) → c.in-Some.field-0-0.now ≡ get_or c.args.sizes.now (length c.loop-z.yielded) d)
    × ((d : ℕ) → c.in-Some.field-0-1.now ≡ get_or c.start_table-table.result (length c.loop-z.yielded) d)
pair c =
    zip_turn c.args.sizes.now c.start_table-table.result c.loop-z.yielded _ _ c.next.new.self _ (search rules) (search rules)
    c.loop-z.yielded_by _ c.in-Some.is c.next.ensures.steps

-- a segment has a place in the table
few : (c : After-start_swap-w) → length c.loop-z.yielded < 256
few c = omega (arith, (pair c).0, c.requires)

adds-within : (c : After-start_swap-w) → c.start_swap-w.result.0 * c.in-Some.field-0-0.now ≤ 2 ^ 25 * 2 ^ 16
adds-within c =
    product-within _ _ (2 ^ 25) (2 ^ 16) (omega (arith, c.start_swap-w.ensures.within))
    (omega (arith, (pair c).2 0, c.type_inv.sizes (length c.loop-z.yielded)))

pub returns-then-is_empty : goal.returns-then-is_empty
returns-then-is_empty c = swaps-cold c.args.a c.args.sizes.now c.args.warm.now
    (eqb-true (length c.args.warm.now) 0 (sym c.is_empty.ensures ∙ c.if-is_empty.true))

pub loop-z-init : goal.loop-z-init
loop-z-init c = (omega arith, omega arith, swaps-none _ _ _)

pub plus-swap-requires : goal.plus-swap-requires
plus-swap-requires c =
    omega (arith, few (goal.at.plus-swap-requires c).After-start_swap-w, c.loop-z.invariant.0, c.start_swap-w.ensures.within)

pub plus-swapz-requires : goal.plus-swapz-requires
plus-swapz-requires c =
    omega (
      arith,
      few (goal.at.plus-swapz-requires c).After-start_swap-w,
      c.loop-z.invariant.1,
      c.times.ensures,
      adds-within (goal.at.plus-swapz-requires c).After-start_swap-w,
    )

pub loop-z-preserved : goal.loop-z-preserved
loop-z-preserved c =
    let at = (goal.at.loop-z-preserved c).After-start_swap-w in
    let turn = pair at in
    let i = length c.loop-z.yielded in
    rw length-append (
      omega (arith, c.loop-z.invariant.0, c.start_swap-w.ensures.within, c.plus-swap.ensures),
      omega (arith, c.loop-z.invariant.1, adds-within at, c.times.ensures, c.plus-swapz.ensures),
      swaps-more c.args.a c.args.sizes.now c.args.warm.now i (few at) c.loop-z.invariant.2
          (rw (← c.start_table-table.ensures, ← turn.2 0, ← turn.3 0) c.start_swap-w.ensures.exact) c.plus-swap.ensures
          (rw (← turn.2 0) (omega (arith, c.times.ensures, c.plus-swapz.ensures))),
    )

pub returns : goal.returns
returns c =
    let every = zip_end c.args.sizes.now c.start_table-table.result c.loop-z.yielded _ _ c.next.new.self _ (search rules) (search rules)
    c.loop-z.yielded_by c.in-None.is c.next.ensures.steps in
    let same : length c.loop-z.yielded ≡ length c.args.sizes.now = omega (arith, every, c.requires, c.start_table-table.type_inv) in
    c.loop-z.invariant.2 ∙ rw same
