-- What the definition of sizing says: the row is within the ceiling, of the least load among such rows and the lowest of that load, and
-- there is no other such row; there is none exactly where every row's optmem exceeds the ceiling. Of any rows, in any order.
use Prim.Native.Nat.{ℕ, zero, suc}
use mathlib.Core.Path.{◌≡◌, refl, ap}
use mathlib.Core.Logic.{⊎_elim}
use mathlib.Core.Bool.{Bool, true, false, cond, ◌&&◌}
use mathlib.Core.Option.{Option, none, some}
use native.Mathlib.Omega.{arith}
use lib.Dec.{leb, ltb}
use lib.ListN.{length}
use borrow.Author.Tests.{leb-true, leb-false, ltb-true, ltb-false}
use Rattle.model.specs.Sheets.{SheetValue, row_optmem, row_load}
use Rattle.model.specs.Sizing.{chosen, chosen_of, sized_row, Sized, NoneFits}
use Rattle.model.proofs.Sums.{last-or-below}

module _ (s : SheetValue) (ceiling : ℕ) where
  -- what is said of the choice among the first n rows
  abbrev pub Choice : ℕ → Option ℕ → Type 0
  Choice n none = NoneFits s ceiling n
  Choice n (some r) = Sized s ceiling n r

  -- one row more
  choice-more : (n : ℕ) (o : Option ℕ) → Choice n o → Choice (suc n) (chosen s ceiling n o)
  choice-more n none none-fit = go (leb (row_optmem s n) ceiling) refl
    where
      go : (b : Bool) → leb (row_optmem s n) ceiling ≡ b → Choice (suc n) (cond b (some n) none)
      go true e =
          record {
            is_row = omega arith;
            within = leb-true (row_optmem s n) ceiling e;
            least =
                λ q lt fit. ⊎_elim (λ same. rw same (omega arith)) (λ below. absurd (omega (arith, none-fit q below)))
                (last-or-below n q lt);
            lowest = λ q lt fit. absurd (omega (arith, none-fit q lt));
          }
      go false e =
          λ q lt. ⊎_elim (λ same. rw same (leb-false (row_optmem s n) ceiling e)) (λ below. none-fit q below) (last-or-below n q lt)
  choice-more n (some r) z = go (leb (row_optmem s n) ceiling) (ltb (row_load s n) (row_load s r)) refl refl
    where
      go : (b c : Bool) → leb (row_optmem s n) ceiling ≡ b → ltb (row_load s n) (row_load s r) ≡ c
          → Choice (suc n) (cond (b && c) (some n) (some r))
      go true true e l =
          let less = ltb-true (row_load s n) (row_load s r) l in
          record {
            is_row = omega arith;
            within = leb-true (row_optmem s n) ceiling e;
            least =
                λ q lt fit. ⊎_elim (λ same. rw same (omega arith)) (λ below. omega (arith, z.least q below fit)) (last-or-below n q lt);
            lowest = λ q lt fit. omega (arith, z.least q lt fit);
          }
      go true false e l =
          let more = ltb-false (row_load s n) (row_load s r) l in
          record {
            is_row = omega (arith, z.is_row);
            within = z.within;
            least = λ q lt fit. ⊎_elim (λ same. rw same more) (λ below. z.least q below fit) (last-or-below n q lt);
            lowest = z.lowest;
          }
      go false c e l =
          let beyond = leb-false (row_optmem s n) ceiling e in
          record {
            is_row = omega (arith, z.is_row);
            within = z.within;
            least =
                λ q lt fit. ⊎_elim (λ same. absurd (omega (arith, rw same at fit))) (λ below. z.least q below fit) (last-or-below n q lt);
            lowest = z.lowest;
          }

  pub choice-is : (n : ℕ) → Choice n (chosen_of s ceiling n)
  unfolding chosen_of
  choice-is zero = λ q lt. absurd (omega arith)
  choice-is (suc n) = choice-more n (chosen_of s ceiling n) (choice-is n)

  -- no two rows are the lowest with the least load
  pub sized-once : (n q r : ℕ) → Sized s ceiling n q → Sized s ceiling n r → q ≡ r
  sized-once n q r y z = go (ltb q r) (ltb r q) refl refl
    where
      go : (b c : Bool) → ltb q r ≡ b → ltb r q ≡ c → q ≡ r
      go true c e l = absurd (omega (arith, z.lowest q (ltb-true q r e) y.within, y.least r z.is_row z.within))
      go false true e l = absurd (omega (arith, y.lowest r (ltb-true r q l) z.within, z.least q y.is_row y.within))
      go false false e l = omega (arith, ltb-false q r e, ltb-false r q l)

  -- the choice is a row exactly where it is the lowest with the least load within the ceiling
  pub sized-chosen : (n r : ℕ) → Sized s ceiling n r → chosen_of s ceiling n ≡ some r
  sized-chosen n r z = go (chosen_of s ceiling n) (choice-is n)
    where
      go : (o : Option ℕ) → Choice n o → o ≡ some r
      go none none-fit = absurd (omega (arith, none-fit r z.is_row, z.within))
      go (some q) y = ap some (sized-once n q r y z)

  -- and none exactly where every row's optmem exceeds the ceiling
  pub none-chosen : (n : ℕ) → NoneFits s ceiling n → chosen_of s ceiling n ≡ none
  none-chosen n none-fit = go (chosen_of s ceiling n) (choice-is n)
    where
      go : (o : Option ℕ) → Choice n o → o ≡ none
      go none e = refl
      go (some q) y = absurd (omega (arith, none-fit q y.is_row, y.within))

  -- of a whole sheet
  pub row_sized : (r : ℕ) → sized_row s ceiling ≡ some r → Sized s ceiling (length s.head.rows) r
  row_sized r e = rw e at (choice-is (length s.head.rows))

  pub no-row-fits : sized_row s ceiling ≡ none → NoneFits s ceiling (length s.head.rows)
  no-row-fits e = rw e at (choice-is (length s.head.rows))
