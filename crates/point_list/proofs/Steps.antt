-- The list of reuses in their order: each is of one step, each step has its place, and a sum over them is one over the steps.
use Prim.Native.Nat.{ℕ, zero, suc, ◌+◌, ◌<◌}
use mathlib.Core.Path.{◌≡◌, refl, ap, sym, ◌∙◌}
use mathlib.Core.Bool.{Bool, true, false, cond, ◌&&◌, false≢true}
use mathlib.Core.Logic.{⊎_elim}
use mathlib.Core.List.{List, [], ◌∷◌, ◌++◌}
use native.Mathlib.Omega.{arith}
use lib.Dec.{ltb}
use lib.ListN.{length, get_or, length-append, get_or-append}
use lib.Seq.{get_or_at}
use Rattle.model.specs.Figures.{is_reuse}
use Rattle.model.specs.Sums.{sum}
use Rattle.model.specs.Traces.{Trace, segs, entry, touching, unreferenced}
use Rattle.model.proofs.Sums.{last-or-below, sum-none, sum-suc, sum-eq}
use Rattle.points.specs.Points.{Ratio, reuses, ratio_at, zero_one}
use Rattle.point_list.specs.inner.Held.{reuse_ratios}
use Rattle.point_list.proofs.Passing.{step-cases}

-- x is the ratio of a reuse that the first n steps end
pub record OfStep (T : Trace) (n : ℕ) (x : Ratio) : Type 0 where
  pub step : ℕ
  pub before : step < n
  pub reuse : reuses T step ≡ true
  pub exact : x ≡ ratio_at T step

-- the reuse that step s ends has a place in the list, behind those of earlier steps
pub record Placed (T : Trace) (l : List Ratio) (s : ℕ) : Type 0 where
  pub place : ℕ
  pub within : place < length l
  pub exact : get_or l place zero_one ≡ ratio_at T s
  pub earlier : (j : ℕ) → j < place → OfStep T s (get_or l j zero_one)

-- a list and one more behind it
module _ (l : List Ratio) (x : Ratio) where
  more_length : length (l ++ (x ∷ [])) ≡ suc (length l)
  more_length = length-append l (x ∷ []) ∙ omega arith

  more_last : get_or (l ++ (x ∷ [])) (length l) zero_one ≡ x
  more_last = get_or_at l x [] zero_one (length l) refl

  more_before : (j : ℕ) → j < length l → get_or (l ++ (x ∷ [])) j zero_one ≡ get_or l j zero_one
  more_before j lt = get_or-append l (x ∷ []) zero_one j lt

  -- the sum of g over its entries
  more_sum : (g : Ratio → ℕ) → sum (length (l ++ (x ∷ []))) (λ j. g (get_or (l ++ (x ∷ [])) j zero_one))
      ≡ sum (length l) (λ j. g (get_or l j zero_one)) + g x
  more_sum g =
      rw more_length
      (sum-suc (length l) (λ j. g (get_or (l ++ (x ∷ [])) j zero_one))
      ∙ omega (
        arith,
        sum-eq (length l) (λ j. g (get_or (l ++ (x ∷ [])) j zero_one)) (λ j. g (get_or l j zero_one)) (λ j lt. ap g (more_before j lt)),
        ap g more_last,
      ))

module _ (T : Trace) where
  of_later : (n : ℕ) (x : Ratio) → OfStep T n x → OfStep T (suc n) x
  of_later n x v = record { step = v.step; before = omega (arith, v.before); reuse = v.reuse; exact = v.exact }

  -- every entry is of a step
  pub reuse_of : (n j : ℕ) → j < length (reuse_ratios T n) → OfStep T n (get_or (reuse_ratios T n) j zero_one)
  unfolding reuse_ratios
  reuse_of zero = λ j lt. absurd (omega arith)
  reuse_of (suc n) =
      step-cases T (λ l. (j : ℕ) → j < length l → OfStep T (suc n) (get_or l j zero_one)) n
      (λ e j lt. ⊎_elim
      (λ q. record {
        step = n;
        before = omega arith;
        reuse = e;
        exact = ap (λ (k : ℕ). get_or (reuse_ratios T n ++ (ratio_at T n ∷ [])) k zero_one) q ∙ more_last (reuse_ratios T n) (ratio_at T n);
      })
      (λ q.
      let v = reuse_of n j q in
      record {
        step = v.step;
        before = omega (arith, v.before);
        reuse = v.reuse;
        exact = more_before (reuse_ratios T n) (ratio_at T n) j q ∙ v.exact;
      })
      (last-or-below (length (reuse_ratios T n)) j (omega (arith, more_length (reuse_ratios T n) (ratio_at T n)))))
      (λ e j lt. of_later n (get_or (reuse_ratios T n) j zero_one) (reuse_of n j lt))

  placed_more : (l : List Ratio) (x : Ratio) (s : ℕ) → Placed T l s → Placed T (l ++ (x ∷ [])) s
  placed_more l x s v =
      record {
        place = v.place;
        within = omega (arith, v.within, more_length l x);
        exact = more_before l x v.place v.within ∙ v.exact;
        earlier = λ j lt.
            let o = v.earlier j lt in
            record {
              step = o.step;
              before = o.before;
              reuse = o.reuse;
              exact = more_before l x j (omega (arith, v.within)) ∙ o.exact;
            };
      }

  -- every reuse has its place
  pub reuse_placed : (n s : ℕ) → s < n → reuses T s ≡ true → Placed T (reuse_ratios T n) s
  reuse_placed zero s lt r = absurd (omega arith)
  reuse_placed (suc n) s lt r =
      step-cases T (λ l. Placed T l s) n
      (λ e. ⊎_elim
      (λ q. rw q (last_one n))
      (λ q. placed_more (reuse_ratios T n) (ratio_at T n) s (reuse_placed n s q r))
      (last-or-below n s lt))
      (λ e. ⊎_elim
      (λ q. absurd (false≢true (sym e ∙ (ap (reuses T) (sym q) ∙ r))))
      (λ q. reuse_placed n s q r)
      (last-or-below n s lt))
    where
      last_one : (n : ℕ) → Placed T (reuse_ratios T n ++ (ratio_at T n ∷ [])) n
      last_one n =
          record {
            place = length (reuse_ratios T n);
            within = omega (arith, more_length (reuse_ratios T n) (ratio_at T n));
            exact = more_last (reuse_ratios T n) (ratio_at T n);
            earlier = λ j lt.
                let o = reuse_of n j lt in
                record {
                  step = o.step;
                  before = o.before;
                  reuse = o.reuse;
                  exact = more_before (reuse_ratios T n) (ratio_at T n) j lt ∙ o.exact;
                };
          }

  -- what a step adds that counts where it ends a reuse
  touching_reuse : (f : ℕ → ℕ) (t : ℕ) → touching T (λ t i. cond (reuses T t) (f t) 0) t ≡ cond (reuses T t) (f t) 0
  unfolding touching
  touching_reuse f t = go (ltb (entry T t) (segs T)) (is_reuse (unreferenced T t (entry T t)))
    where
      go : (a b : Bool) → cond a (cond (a && b) (f t) 0) 0 ≡ cond (a && b) (f t) 0
      go true b = refl
      go false b = refl

  -- a sum over the reuses
  pub reuse_sum : (g : Ratio → ℕ) (n : ℕ) → sum (length (reuse_ratios T n)) (λ j. g (get_or (reuse_ratios T n) j zero_one))
      ≡ sum n (touching T (λ t i. cond (reuses T t) (g (ratio_at T t)) 0))
  unfolding reuse_ratios
  reuse_sum g zero = sum-none (λ j. g (get_or [] j zero_one)) ∙ sym (sum-none (touching T (λ t i. cond (reuses T t) (g (ratio_at T t)) 0)))
  reuse_sum g (suc n) =
      step-cases T
      (λ l. sum (length l) (λ j. g (get_or l j zero_one)) ≡ sum (suc n) (touching T (λ t i. cond (reuses T t) (g (ratio_at T t)) 0))) n
      (λ e. omega (
        arith,
        more_sum (reuse_ratios T n) (ratio_at T n) g,
        reuse_sum g n,
        sum-suc n (touching T (λ t i. cond (reuses T t) (g (ratio_at T t)) 0)),
        touching_reuse (λ t. g (ratio_at T t)) n,
        ap (λ (b : Bool). cond b (g (ratio_at T n)) 0) e,
      ))
      (λ e. omega (
        arith,
        reuse_sum g n,
        sum-suc n (touching T (λ t i. cond (reuses T t) (g (ratio_at T t)) 0)),
        touching_reuse (λ t. g (ratio_at T t)) n,
        ap (λ (b : Bool). cond b (g (ratio_at T n)) 0) e,
      ))
