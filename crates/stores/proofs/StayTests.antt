-- The tests by which stores are counted say what the records say: `is_stay` that the steps are a stay, and the test for a modifying touch
-- that one of them has it.
use Prim.Native.Nat.{ℕ, zero, suc, ◌≤◌, ◌<◌}
use mathlib.Core.Path.{◌≡◌, refl}
use mathlib.Core.Logic.{◌⊎◌, inl, inr, ⊎_elim}
use mathlib.Core.Bool.{Bool, true, false, not, ◌&&◌, ◌||◌, false≢true, or-true}
use native.Mathlib.Omega.{arith}
use lib.Dec.{leb, ltb}
use borrow.Author.Tests.{lt-ltb, le-ltb, le-leb, leb-true, ltb-true, ltb-false, not-true}
use Rattle.model.specs.Traces.{Trace, steps, touched}
use Rattle.model.proofs.Sums.{last-or-below}
use Rattle.stores.specs.Stays.{all, any, every_step, some_step, held_before, held_after, is_stay, modifies_in, is_modified_stay}
use Rattle.stores.specs.Stays.{Stay, Modifying}
use Rattle.stores.proofs.Stays.{all_true}

and_both : (a b : Bool) → a && b ≡ true → (a ≡ true) × (b ≡ true)
and_both true b e = (refl, e)
and_both false b e = absurd (false≢true e)

either_true : (a b : Bool) → a || b ≡ true → (a ≡ true) ⊎ (b ≡ true)
either_true true b e = inl refl
either_true false b e = inr e

all-each : (n : ℕ) (f : ℕ → Bool) → all n f ≡ true → (t : ℕ) → t < n → f t ≡ true
unfolding all
all-each zero f e t lt = absurd (omega arith)
all-each (suc n) f e t lt =
    let both = and_both (all n f) (f n) e in
    ⊎_elim (λ here. rw here both.1) (λ l. all-each n f both.0 t l) (last-or-below n t lt)

any-there : (n : ℕ) (f : ℕ → Bool) → any n f ≡ true → (t : ℕ) × ((t < n) × (f t ≡ true))
unfolding any
any-there zero f e = absurd (false≢true e)
any-there (suc n) f e =
    ⊎_elim
    (λ before. let it = any-there n f before in (it.0, (omega (arith, it.1.0), it.1.1)))
    (λ here. (n, (omega arith, here)))
    (either_true (any n f) (f n) e)

there-any : (n : ℕ) (f : ℕ → Bool) (t : ℕ) → t < n → f t ≡ true → any n f ≡ true
unfolding any
there-any zero f t lt e = absurd (omega arith)
there-any (suc n) f t lt e =
    ⊎_elim (λ here. rw (rw here at e) (or-true (any n f))) (λ l. rw (there-any n f t l e)) (last-or-below n t lt)

module _ (first last : ℕ) (f : ℕ → Bool) where
  every-each : every_step first last f ≡ true → (t : ℕ) → first ≤ t → t ≤ last → f t ≡ true
  unfolding every_step
  every-each e t le l =
      rw (le-ltb t first le) at (all-each (suc last) (λ t. ltb t first || f t) e t (omega arith))

  each-every : ((t : ℕ) → first ≤ t → t ≤ last → f t ≡ true) → every_step first last f ≡ true
  unfolding every_step
  each-every each = all_true (suc last) (λ t. ltb t first || f t) (λ t lt. go t (omega arith) (ltb t first) refl)
    where
      go : (t : ℕ) → t ≤ last → (b : Bool) → ltb t first ≡ b → ltb t first || f t ≡ true
      go t le true e = rw e
      go t le false e = rw e (each t (ltb-false t first e) le)

module _ (T : Trace) (S : ℕ → ℕ → Bool) (i first last : ℕ) where
  -- the test for a stay
  pub tested-stay : is_stay T S i first last ≡ true → Stay T S i first last
  unfolding is_stay held_before held_after
  tested-stay e =
      let a = and_both (leb first last && leb last (steps T)) _ e in
      let o = and_both (leb first last) (leb last (steps T)) a.0 in
      let b = and_both (every_step first last (λ t. S t i)) _ a.1 in
      let c = and_both (not (held_before S i first)) (not (held_after T S i last)) b.1 in
      record {
        ordered = leb-true first last o.0;
        recorded = leb-true last (steps T) o.1;
        unbroken = every-each first last (λ t. S t i) b.0;
        starts = before first (not-true (held_before S i first) c.0);
        ends = λ lt. rw (lt-ltb last (steps T) lt) at (not-true (held_after T S i last) c.1);
      }
    where
      before : (n : ℕ) → held_before S i n ≡ false → (t : ℕ) → suc t ≡ n → S t i ≡ false
      before n none t e = rw (← e) at none

  pub stay-tested : Stay T S i first last → is_stay T S i first last ≡ true
  unfolding is_stay held_before held_after
  stay-tested s =
      rw (
        le-leb first last s.ordered,
        le-leb last (steps T) s.recorded,
        each-every first last (λ t. S t i) s.unbroken,
        before first s.starts,
      )
      (after (ltb last (steps T)) refl)
    where
      before : (n : ℕ) → ((t : ℕ) → suc t ≡ n → S t i ≡ false) → held_before S i n ≡ false
      before zero none = refl
      before (suc t) none = none t refl

      after : (b : Bool) → ltb last (steps T) ≡ b → not (ltb last (steps T) && S (suc last) i) ≡ true
      after true e = rw (e, s.ends (ltb-true last (steps T) e))
      after false e = rw e

  module _ (marks : ℕ → Bool) where
    -- the test for a modifying touch among them
    pub tested-modifying : some_step first last (modifies_in T marks i) ≡ true → (t : ℕ) × Modifying T marks i first last t
    unfolding some_step modifies_in
    tested-modifying e =
        let it = any-there (suc last) (λ t. leb first t && modifies_in T marks i t) e in
        found it.0 it.1.0 (and_both (leb first it.0) (modifies_in T marks i it.0) it.1.1)
      where
        found : (n : ℕ) → n < suc last → (leb first n ≡ true) × (modifies_in T marks i n ≡ true)
            → (t : ℕ) × Modifying T marks i first last t
        found zero lt m = absurd (false≢true m.1)
        found (suc t) lt m =
            let both = and_both (touched T t i) (marks t) m.1 in
            (t, record { from = leb-true first (suc t) m.0; up_to = omega arith; touches = both.0; marked = both.1 })

    pub modifying-tested : (t : ℕ) → Modifying T marks i first last t → some_step first last (modifies_in T marks i) ≡ true
    unfolding some_step modifies_in
    modifying-tested t m =
        there-any (suc last) (λ t. leb first t && modifies_in T marks i t) (suc t) (omega (arith, m.up_to))
        (rw (le-leb first (suc t) m.from, m.touches, m.marked))

    -- so w is counted just for the stays with at least one modifying touch
    pub tested-modified : is_modified_stay T marks S i first last ≡ true
        → Stay T S i first last × ((t : ℕ) × Modifying T marks i first last t)
    unfolding is_modified_stay
    tested-modified e =
        let both = and_both (is_stay T S i first last) (some_step first last (modifies_in T marks i)) e in
        (tested-stay both.0, tested-modifying both.1)

    pub modified-tested : Stay T S i first last → (t : ℕ) → Modifying T marks i first last t → is_modified_stay T marks S i first last
        ≡ true
    unfolding is_modified_stay
    modified-tested s t m = rw (stay-tested s, modifying-tested t m)
