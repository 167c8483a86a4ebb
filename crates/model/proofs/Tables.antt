-- Laws of `tabulate`: its length and entries, one entry set, and a list of one value as a table.
use Prim.Native.Nat.{ℕ, zero, suc, ◌<◌}
use mathlib.Core.Path.{◌≡◌, refl, sym, ◌∙◌}
use mathlib.Core.Logic.{⊎_elim}
use mathlib.Core.Bool.{Bool, true, false}
use mathlib.Core.List.{List, [], ◌∷◌}
use native.Mathlib.Omega.{arith}
use lib.Dec.{eqb}
use lib.ListN.{length, get_or, set, replicate, length-append, length-set, length-replicate, get_or-replicate, get_or-append}
use lib.Seq.{get_or_at, get_or-set_same, get_or-set_other, ext_get_or}
use borrow.Author.Tests.{eqb-true, eqb-false}
use Rattle.model.proofs.Sums.{last-or-below}
use Rattle.model.specs.Sums.{tabulate}

module _ {A : Type 0} where
  pub length-tabulate : (n : ℕ) (f : ℕ → A) → length (tabulate n f) ≡ n
  unfolding tabulate
  length-tabulate zero f = refl
  length-tabulate (suc n) f = omega (arith, length-append (tabulate n f) (f n ∷ []), length-tabulate n f)

  pub get_or-tabulate : (n : ℕ) (f : ℕ → A) (j : ℕ) (d : A) → j < n → get_or (tabulate n f) j d ≡ f j
  unfolding tabulate
  get_or-tabulate zero f j d lt = absurd (omega arith)
  get_or-tabulate (suc n) f j d lt =
      ⊎_elim
      (λ e. rw e (get_or_at (tabulate n f) (f n) [] d n (length-tabulate n f)))
      (λ l. get_or-append (tabulate n f) (f n ∷ []) d j (omega (arith, length-tabulate n f)) ∙ get_or-tabulate n f j d l)
      (last-or-below n j lt)

  -- a list of length n with the entries f 0, .., f (n - 1) is their table
  pub list-tabulate : (n : ℕ) (f : ℕ → A) (l : List A) (d : A) → length l ≡ n → ((j : ℕ) → j < n → get_or l j d ≡ f j) → l ≡ tabulate n f
  list-tabulate n f l d len entries =
      ext_get_or d l (tabulate n f) (omega (arith, length-tabulate n f))
      (λ j lt. entries j (omega arith) ∙ sym (get_or-tabulate n f j d (omega arith)))

  pub tabulate-eq : (n : ℕ) (f g : ℕ → A) → ((j : ℕ) → j < n → f j ≡ g j) → tabulate n f ≡ tabulate n g
  unfolding tabulate
  tabulate-eq zero f g eq = refl
  tabulate-eq (suc n) f g eq = rw (tabulate-eq n f g (λ j lt. eq j (omega arith)), eq n (omega arith))

  -- a list of one value, n times
  pub tabulate-const : (n : ℕ) (v : A) (f : ℕ → A) → ((j : ℕ) → j < n → f j ≡ v) → replicate n v ≡ tabulate n f
  tabulate-const n v f eq =
      list-tabulate n f (replicate n v) v (length-replicate n v) (λ j lt. get_or-replicate n j v v lt ∙ sym (eq j lt))

  -- setting entry k of the table of f to g k gives the table of g, where g is f at every other place
  pub tabulate-set : (n : ℕ) (f g : ℕ → A) (k : ℕ) → k < n → ((j : ℕ) → j < n → (j ≡ k → ⊥) → g j ≡ f j)
      → set (tabulate n f) k (g k) ≡ tabulate n g
  tabulate-set n f g k lt others =
      list-tabulate n g (set (tabulate n f) k (g k)) (f 0)
      (length-set (tabulate n f) k (g k) ∙ length-tabulate n f)
      (λ j l. go j l (eqb j k) refl)
    where
      go : (j : ℕ) → j < n → (b : Bool) → eqb j k ≡ b → get_or (set (tabulate n f) k (g k)) j (f 0) ≡ g j
      go j l true e = rw (eqb-true j k e) (get_or-set_same (tabulate n f) k (g k) (f 0) (omega (arith, length-tabulate n f)))
      go j l false e =
          let ne = eqb-false j k e in
          get_or-set_other (tabulate n f) k j (g k) (f 0) ne ∙ get_or-tabulate n f j (f 0) l ∙ sym (others j l ne)
