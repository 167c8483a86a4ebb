-- `sizing::sheet_size` meets its contract.
use Prim.Native.Nat.{ℕ, ◌≤◌, ◌<◌}
use mathlib.Core.Bool.{cond, ◌&&◌}
use mathlib.Core.Path.{◌≡◌, refl, sym, ap, ◌∙◌}
use Rattle.std.specs.Prelude.{Some}
use native.Mathlib.Omega.{arith}
use lib.Dec.{leb}
use lib.ListN.{length, take, length-take}
use lib.Seq.{length-take-le}
use borrow.Author.Tests.{le-leb}
use Rattle.model.specs.RowAnswers.{all_figures}
use Rattle.model.specs.Sizing.{chosen_of}
use Rattle.model.specs.Values.{value_of}
use Rattle.model.proofs.Standing.{rows-counted}
use Rattle.rows.proofs.Sizes.{memory_at, given, given-some, given-none, answered, less_load, chosen-step, chosen-below, chosen-ends}
use Rattle.rows.proofs.sizing.sheet_size.Goals.{In-loop-i, Left-loop-i, in-Some, in-None, then-less, else-less}
use Rattle.rows.proofs.sizing.sheet_size.Goals.{else-loop-i-test, then-loop-i-test+then-ceiling-f}
use Rattle.rows.proofs.sizing.sheet_size.Goals as goal

pub loop-i-init : goal.loop-i-init
unfolding chosen_of
loop-i-init c = refl

-- the figures are those of the sheet's rows, and the pass is at one of them
rows-are : (c : In-loop-i) → take c.args.s.head.rows c.all_figures-all.result
    ≡ take (length (value_of c.args.s).head.rows) (all_figures (value_of c.args.s))
rows-are c = rw (rows-counted c.args.s c.requires, c.all_figures-all.ensures)

is_row : (c : In-loop-i) → c.loop-i.i < length (value_of c.args.s).head.rows
is_row c = omega (arith, c.loop-i-test.true, rows-counted c.args.s c.requires, length-take c.args.s.head.rows c.all_figures-all.result)

-- a row chosen is one of those passed
best-below : (c : In-loop-i) (best : ℕ) → c.loop-i.chosen ≡ Some best → best < c.loop-i.i
best-below c best chose =
    chosen-below (value_of c.args.s) c.requires.valid c.args.ceiling _ (rows-are c) c.loop-i.i best
    (given-some _ best (sym c.loop-i.invariant ∙ chose))

-- the same after the pass: the figures, and how many
figures-are : (c : Left-loop-i) → take c.args.s.head.rows c.all_figures-all.result
    ≡ take (length (value_of c.args.s).head.rows) (all_figures (value_of c.args.s))
figures-are c = rw (rows-counted c.args.s c.requires, c.all_figures-all.ensures)

is_count : (c : Left-loop-i) → length (take c.args.s.head.rows c.all_figures-all.result) ≡ length (value_of c.args.s).head.rows
is_count c =
    length-take-le _ _ (omega (arith, c.requires, c.all_figures-all.type_inv)) ∙ sym (rows-counted c.args.s c.requires)

pub bounds-figures-best : goal.bounds-figures-best
bounds-figures-best c =
    let turn = (goal.at.bounds-figures-best c).In-loop-i in
    omega (arith, c.loop-i-test.true, best-below turn c.in-Some.best c.in-Some.is)

pub offset_bounds-figures-best : goal.offset_bounds-figures-best
offset_bounds-figures-best c =
    let turn = (goal.at.offset_bounds-figures-best c).In-loop-i in
    omega (arith, is_row turn, c.requires, rows-counted c.args.s c.requires, best-below turn c.in-Some.best c.in-Some.is)

pub loop-i-preserved : goal.loop-i-preserved
loop-i-preserved c =
    let v = value_of c.args.s in
    let rows = take c.args.s.head.rows c.all_figures-all.result in
    let i = c.loop-i.i in
    let o = chosen_of v c.args.ceiling i in
    let turn = (goal.at.loop-i-preserved c).In-loop-i in
    let are = rows-are turn in
    let chose : c.match-chosen.chosen ≡ given o = elim c.match-chosen.branch [
      | in-Some w ↦ w.chosen-is ∙ sym w.in-Some.is ∙ c.loop-i.invariant
      | in-None w ↦ w.chosen-is ∙ c.loop-i.invariant
    ] in
    let less : c.match-chosen.less ≡ less_load v c.requires.valid c.args.ceiling rows are i o = elim c.match-chosen.branch [
      | in-Some w ↦
          w.less-is
          ∙ ap (less_load v c.requires.valid c.args.ceiling rows are i)
          (sym (given-some o w.in-Some.best (sym c.loop-i.invariant ∙ w.in-Some.is)))
      | in-None w ↦
          w.less-is
          ∙ ap (less_load v c.requires.valid c.args.ceiling rows are i) (sym (given-none o (sym c.loop-i.invariant ∙ w.in-None.is)))
    ] in
    let within : memory_at rows i ≤ c.args.ceiling = omega (arith, c.if-ceiling-f.false) in
    let now : c.if-less.chosen ≡ cond (leb (memory_at rows i) c.args.ceiling && c.match-chosen.less) (Some i) c.match-chosen.chosen =
    elim c.if-less.branch [
      | then-less w ↦ rw (le-leb (memory_at rows i) c.args.ceiling within, w.if-less.true) w.chosen-is
      | else-less w ↦ rw (le-leb (memory_at rows i) c.args.ceiling within, w.if-less.false) w.chosen-is
    ] in
    chosen-step v c.requires.valid c.args.ceiling rows are i (is_row turn) _ _ _ chose less now

-- the pass ends at the rows' end or at a row beyond the ceiling
ended : (c : Left-loop-i)
    → c.loop-i.i < length (value_of c.args.s).head.rows
    → c.args.ceiling < memory_at (take c.args.s.head.rows c.all_figures-all.result) c.loop-i.i
ended c lt =
    elim c.loop-i-test.branch [
      | else-loop-i-test w ↦
          absurd (omega (arith, w.loop-i-test.false, is_count c))
      | then-loop-i-test+then-ceiling-f w ↦ w.if-ceiling-f.true
    ]

pub returns : goal.returns
returns c =
    let v = value_of c.args.s in
    let left = (goal.at.returns c).Left-loop-i in
    let whole = is_count left in
    c.ok_or.ensures.value
    ∙ rw (
      c.loop-i.invariant,
      ← chosen-ends v c.requires.valid c.args.ceiling _ (figures-are left) c.loop-i.i (length v.head.rows)
          (omega (arith, c.loop-i.auto.i-end, whole)) (omega arith) (ended left),
    ) (answered _)
