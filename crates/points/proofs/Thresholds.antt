-- The list of thresholds of a run: ascending, every reuse's ratio in it, every entry that of the earliest reuse having it or 0 and 1 in
-- front, and no longer than the run.
use Prim.Native.Nat.{ℕ, zero, suc, ◌≤◌, ◌<◌}
use mathlib.Core.Path.{◌≡◌, refl, ap, sym, ◌∙◌}
use mathlib.Core.Bool.{Bool, true, false, cond, false≢true}
use mathlib.Core.Logic.{◌⊎◌, inl, inr, ⊎_elim}
use mathlib.Core.List.{List}
use mathlib.Core.Option.{none, some}
use native.Mathlib.Omega.{arith}
use lib.ListN.{length, get_or}
use Rattle.model.specs.Traces.{Trace, steps, entry, size_of}
use Rattle.model.specs.Costs.{retention}
use Rattle.model.specs.Figures.{of_time}
use Rattle.model.proofs.Sums.{last-or-below}
use Rattle.model.proofs.Touches.{unreferenced-none}
use Rattle.points.specs.Points.{Ratio, insert, reuses, ratio_at, ratios, zero_one, thresholds, Has, Earliest}
use Rattle.points.specs.Curve.{NoZero}
use Rattle.points.proofs.Lists.{All, Ascending, Positive, same-trans, insert_all, insert-ascending, insert-has, insert-keeps}
use Rattle.points.proofs.Lists.{insert-length, insert-new, ZeroFirst, zero-inserted, zero-stays, zero-there}

module _ (T : Trace) where
  -- the two cases of a step
  step-cases : (Q : List Ratio → Type 0) (t : ℕ) → (reuses T t ≡ true → Q (insert (ratio_at T t) (ratios T t)))
      → (reuses T t ≡ false → Q (ratios T t)) → Q (ratios T (suc t))
  unfolding ratios
  step-cases Q t one two = go (reuses T t) refl
    where
      go : (b : Bool) → reuses T t ≡ b → Q (cond (reuses T t) (insert (ratio_at T t) (ratios T t)) (ratios T t))
      go true e = rw e (one e)
      go false e = rw e (two e)

  pub ratio-positive : (t : ℕ) → Positive (ratio_at T t)
  ratio-positive t = omega arith

  pub ratios-positive : (n : ℕ) → All Positive (ratios T n)
  unfolding ratios
  ratios-positive zero = λ k lt. absurd (omega arith)
  ratios-positive (suc n) =
      step-cases (All Positive) n (λ e. insert_all Positive (ratio_at T n) (ratios T n) (ratio-positive n) (ratios-positive n))
      (λ e. ratios-positive n)

  pub ratios-ascending : (n : ℕ) → Ascending (ratios T n)
  unfolding ratios
  ratios-ascending zero = λ j k lt l. absurd (omega arith)
  ratios-ascending (suc n) =
      step-cases Ascending n
      (λ e. insert-ascending (ratio_at T n) (ratios T n) (ratio-positive n) (ratios-positive n) (ratios-ascending n))
      (λ e. ratios-ascending n)

  pub ratios-have : (n s : ℕ) → s < n → reuses T s ≡ true → Has (ratios T n) (ratio_at T s)
  ratios-have zero s lt r = absurd (omega arith)
  ratios-have (suc n) s lt r =
      step-cases (λ l. Has l (ratio_at T s)) n
      (λ e. ⊎_elim (λ q. rw q (insert-has (ratio_at T n) (ratios T n)))
      (λ l. insert-keeps (ratio_at T n) (ratios T n) (ratio_at T s) (ratios-have n s l r)) (last-or-below n s lt))
      (λ e. ⊎_elim (λ q. absurd (false≢true (sym e ∙ (ap (reuses T) (sym q) ∙ r)))) (λ l. ratios-have n s l r) (last-or-below n s lt))

  earliest-later : (n : ℕ) (x : Ratio) → Earliest T n x → Earliest T (suc n) x
  earliest-later n x e =
      record { step = e.step; before = omega (arith, e.before); reuse = e.reuse; exact = e.exact; first = e.first }

  pub ratios-earliest : (n : ℕ) → All (Earliest T n) (ratios T n)
  unfolding ratios
  ratios-earliest zero = λ k lt. absurd (omega arith)
  ratios-earliest (suc n) =
      step-cases (All (Earliest T (suc n))) n
      (λ e. insert-new (Earliest T (suc n)) (ratio_at T n) (ratios T n) (ratio-positive n) (ratios-positive n) (ratios-ascending n)
      (λ no. record {
        step = n;
        before = omega arith;
        reuse = e;
        exact = refl;
        first = λ s lt r q.
            let h = ratios-have n s lt r in
            no (record {
              place = h.place;
              within = h.within;
              equal = same-trans (get_or (ratios T n) h.place zero_one) (ratio_at T s) (ratio_at T n) (ratio-positive s) h.equal q;
            });
      })
      (λ k lt. earliest-later n (get_or (ratios T n) k zero_one) (ratios-earliest n k lt)))
      (λ e k lt. earliest-later n (get_or (ratios T n) k zero_one) (ratios-earliest n k lt))

  -- the thresholds
  pub thresholds-positive : All Positive (thresholds T)
  unfolding thresholds
  thresholds-positive = insert_all Positive zero_one (ratios T (steps T)) (omega arith) (ratios-positive (steps T))

  pub thresholds-ascending : Ascending (thresholds T)
  unfolding thresholds
  thresholds-ascending =
      insert-ascending zero_one (ratios T (steps T)) (omega arith) (ratios-positive (steps T)) (ratios-ascending (steps T))

  pub thresholds-have : (s : ℕ) → s < steps T → reuses T s ≡ true → Has (thresholds T) (ratio_at T s)
  unfolding thresholds
  thresholds-have s lt r = insert-keeps zero_one (ratios T (steps T)) (ratio_at T s) (ratios-have (steps T) s lt r)

  -- the first is 0
  pub thresholds-first : ZeroFirst (thresholds T)
  unfolding thresholds
  thresholds-first = zero-inserted (ratios T (steps T))

  -- an entry is 0 and 1, where no reuse has the ratio 0, or that of the earliest reuse having it
  abbrev pub OfRun : Ratio → Type 0
  OfRun x = NoZero T x ⊎ Earliest T (steps T) x

  pub thresholds-of-run : All OfRun (thresholds T)
  unfolding thresholds
  thresholds-of-run =
      insert-new OfRun zero_one (ratios T (steps T)) (omega arith) (ratios-positive (steps T)) (ratios-ascending (steps T))
      (λ no. inl (record {
        is_zero = refl;
        no_reuse = λ s lt r q.
            let h = ratios-have (steps T) s lt r in
            no (record {
              place = h.place;
              within = h.within;
              equal = same-trans (get_or (ratios T (steps T)) h.place zero_one) (ratio_at T s) zero_one (ratio-positive s) h.equal q;
            });
      }))
      (λ k lt. inr (ratios-earliest (steps T) k lt))

  -- a reuse in the step at place 0 has the ratio 0
  first-ratio : (ratio_at T 0).R ≡ 0
  first-ratio = rw (unreferenced-none T (entry T 0)) (go (T.start (entry T 0)))
    where
      go : (b : Bool) → of_time (retention T.kind (size_of T (entry T 0))) (cond b (some 0) none) ≡ 0
      go true = omega arith
      go false = refl

  -- so where the first step ends a reuse a 0 stands in front
  zero-from-start : reuses T 0 ≡ true → (n : ℕ) → ZeroFirst (ratios T (suc n))
  unfolding ratios insert
  zero-from-start r zero = rw r (record { some_entry = omega arith; zero_first = first-ratio })
  zero-from-start r (suc n) =
      step-cases ZeroFirst (suc n) (λ e. zero-stays (ratio_at T (suc n)) (ratios T (suc n)) (zero-from-start r n))
      (λ e. zero-from-start r n)

  pub ratios-length : (n : ℕ) → length (ratios T n) ≤ n
  unfolding ratios
  ratios-length zero = omega arith
  ratios-length (suc n) =
      step-cases (λ l. length l ≤ suc n) n (λ e. omega (arith, insert-length (ratio_at T n) (ratios T n), ratios-length n))
      (λ e. omega (arith, ratios-length n))

  -- and where it does not there is one entry fewer
  ratios-fewer : reuses T 0 ≡ false → (n : ℕ) → length (ratios T (suc n)) ≤ n
  unfolding ratios
  ratios-fewer r zero = rw r (omega arith)
  ratios-fewer r (suc n) =
      step-cases (λ l. length l ≤ suc n) (suc n)
      (λ e. omega (arith, insert-length (ratio_at T (suc n)) (ratios T (suc n)), ratios-fewer r n))
      (λ e. omega (arith, ratios-fewer r n))

  -- with 0 and 1 there are at most as many entries as steps; one where there is no step
  entries-within : (n m : ℕ) → 1 ≤ m → n ≤ m → length (insert zero_one (ratios T n)) ≤ m
  entries-within zero m one le = omega (arith, insert-length zero_one (ratios T zero), ratios-length zero)
  entries-within (suc n) m one le = go (reuses T 0) refl
    where
      go : (b : Bool) → reuses T 0 ≡ b → length (insert zero_one (ratios T (suc n))) ≤ m
      go true e = rw (zero-there (ratios T (suc n)) (zero-from-start e n)) (omega (arith, ratios-length (suc n)))
      go false e = omega (arith, insert-length zero_one (ratios T (suc n)), ratios-fewer e n)

  pub thresholds-within : (m : ℕ) → 1 ≤ m → steps T ≤ m → length (thresholds T) ≤ m
  unfolding thresholds
  thresholds-within m one le = entries-within (steps T) m one le
