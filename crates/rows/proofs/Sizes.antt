-- Sizing by one pass over the rows, which chooses as the definition does.
use Rattle.std.specs.Prelude.{Option, None, Some}
use Rattle.std.specs.Option.{ok_or}
use Prim.Native.Nat.{ℕ, zero, suc, ◌+◌, ◌≤◌, ◌<◌}
use mathlib.Core.Path.{◌≡◌, refl, sym, ap, subst, ◌∙◌}
use mathlib.Core.Bool.{Bool, true, false, cond, ◌&&◌}
use mathlib.Core.List.{List}
use mathlib.Core.Logic.{⊎_elim}
use mathlib.Core.Option.{Option as Maybe, none, some}
use native.Mathlib.Numerals.{add-one}
use native.Mathlib.Omega.{arith}
use lib.Dec.{leb, ltb}
use lib.ListN.{length, get_or, take}
use lib.Seq.{get_or-take}
use borrow.Author.Tests.{lt-leb}
use Rattle.std.proofs.lemmas.Option.{none-some, same_Some}
use Rattle.model.specs.Rows.{row_figures, zero_figures}
use Rattle.model.specs.Sheets.{SheetValue, Valid, row_optmem, row_load}
use Rattle.model.specs.declared.Refusal.TheVariants.{NoRowFits}
use Rattle.model.specs.declared.RowFigures.{RowFigures}
use Rattle.model.proofs.Ascent.{rows-optmem-rises}
use Rattle.model.proofs.Sizing.{Choice, choice-is}
use Rattle.model.proofs.Sums.{last-or-below}
use Rattle.model.specs.RowAnswers.{all_figures, figures_at}
use Rattle.model.specs.Sizing.{chosen, chosen_of, sizing}
use Rattle.model.proofs.RowAnswers.{figures-at}

-- optmem and load of a row among the figures of all rows
abbrev pub memory_at : List RowFigures → ℕ → ℕ
memory_at all q = (get_or all q zero_figures).optmem.0

abbrev pub load_at : List RowFigures → ℕ → ℕ
load_at all q = (get_or all q zero_figures).load.0

-- a choice as the code has it
abbrev pub given : Maybe ℕ → Option ℕ
given none = None
given (some r) = Some r

-- what is answered for it
pub answered : (o : Maybe ℕ) → ok_or (given o) NoRowFits ≡ sizing o
answered none = refl
answered (some r) = refl

pub given-some : (o : Maybe ℕ) (r : ℕ) → given o ≡ Some r → o ≡ some r
given-some none r e = absurd (none-some r e)
given-some (some q) r e = ap some (same_Some q r e)

pub given-none : (o : Maybe ℕ) → given o ≡ None → o ≡ none
given-none none e = refl
given-none (some q) e = absurd (none-some q (sym e))

pub given-cond : (b : Bool) (n : ℕ) (o : Maybe ℕ) → given (cond b (some n) o) ≡ cond b (Some n) (given o)
given-cond true n o = refl
given-cond false n o = refl

module _ (v : SheetValue) (c : Valid v) (ceiling : ℕ) (rows : List RowFigures)
    (e : rows ≡ take (length v.head.rows) (all_figures v)) where
  row_of : (q : ℕ) → q < length v.head.rows → get_or rows q zero_figures ≡ figures_at v q
  row_of q lt =
      ap (λ fs. get_or fs q zero_figures) e
      ∙ get_or-take (length v.head.rows) (all_figures v) q zero_figures lt
      ∙ figures-at v q zero_figures lt c.rows.rows_within

  memory-of : (q : ℕ) → q < length v.head.rows → memory_at rows q ≡ row_optmem v q
  unfolding row_figures
  memory-of q lt = ap (λ f. f.optmem.0) (row_of q lt)

  load_of : (q : ℕ) → q < length v.head.rows → load_at rows q ≡ row_load v q
  unfolding row_figures
  load_of q lt = ap (λ f. f.load.0) (row_of q lt)

  -- whether the load of row n is less than that of the row chosen before, or none was
  abbrev pub less_load : ℕ → Maybe ℕ → Bool
  less_load n none = true
  less_load n (some r) = ltb (load_at rows n) (load_at rows r)

  -- what is chosen after row n
  pub chosen-next : (n : ℕ) → n < length v.head.rows
      → chosen_of v ceiling (suc n)
      ≡ cond (leb (memory_at rows n) ceiling && less_load n (chosen_of v ceiling n)) (some n) (chosen_of v ceiling n)
  unfolding chosen_of
  chosen-next n lt = rw (memory-of n lt) (go (chosen_of v ceiling n) (choice-is v ceiling n))
    where
      go : (o : Maybe ℕ) → Choice v ceiling n o
          → chosen v ceiling n o ≡ cond (leb (row_optmem v n) ceiling && less_load n o) (some n) o
      go none z = alone (leb (row_optmem v n) ceiling)
        where
          alone : (b : Bool) → cond b (some n) none ≡ cond (b && true) (some n) none
          alone true = refl
          alone false = refl
      go (some r) z = rw (load_of n lt, load_of r (omega (arith, z.is_row))) refl

  -- as the code goes on
  pub chosen-step : (n : ℕ) → n < length v.head.rows → (before now : Option ℕ) (less : Bool) → before ≡ given (chosen_of v ceiling n)
      → less ≡ less_load n (chosen_of v ceiling n) → now ≡ cond (leb (memory_at rows n) ceiling && less) (Some n) before
      → now ≡ given (chosen_of v ceiling (n + 1))
  chosen-step n lt before now less chose is goes =
      rw (goes, chose, is, add-one n, chosen-next n lt)
      (sym (given-cond (leb (memory_at rows n) ceiling && less_load n (chosen_of v ceiling n)) n (chosen_of v ceiling n)))

  -- the row chosen is one of those before
  pub chosen-below : (n r : ℕ) → chosen_of v ceiling n ≡ some r → r < n
  chosen-below n r is = (subst (Choice v ceiling n) is (choice-is v ceiling n)).is_row

  -- the choice stays where the pass ends at the rows' end or at a row beyond the ceiling: each row after it is beyond it too
  pub chosen-ends : (i n : ℕ) → i ≤ n → n ≤ length v.head.rows → (i < n → ceiling < memory_at rows i)
      → chosen_of v ceiling n ≡ chosen_of v ceiling i
  chosen-ends i zero le within beyond = let same : i ≡ 0 = omega arith in rw same refl
  chosen-ends i (suc n) le within beyond =
      ⊎_elim
      (λ same. rw same refl)
      (λ below.
      let lt : n < length v.head.rows = omega arith in
      let later : ceiling < memory_at rows n = omega (
        arith,
        beyond (omega arith),
        memory-of i (omega arith),
        memory-of n lt,
        rows-optmem-rises v c i n (omega arith) lt,
      ) in
      chosen-next n lt
      ∙ rw (lt-leb (memory_at rows n) ceiling later) (chosen-ends i n (omega arith) (omega arith) (λ less. beyond (omega arith))))
      (last-or-below (suc n) i (omega arith))
