-- A list of segments at the front of an array, after a segment was moved to its front: one that was in it, and one that was not.
use Prim.Native.Nat.{ℕ, zero, suc, ◌≤◌, ◌<◌}
use mathlib.Core.Path.{◌≡◌, refl, sym, ap, ◌∙◌}
use mathlib.Core.List.{List, [], ◌∷◌, ◌++◌, append-nil}
use native.Mathlib.Omega.{arith}
use lib.ListN.{length, take, drop, length-append, length-drop, drop_of_length-le}
use lib.Seq.{length-take-le, take_at, take_all}
use Rattle.replacement.specs.Orders.{without, to_front}
use Rattle.lru_curve.specs.inner.Entries.{moved}
use Rattle.lru_curve.specs.inner.Used.{frame_in}
use Rattle.lru_curve.proofs.Indexes.{without-index, index-within}

-- an entry given up among the first n + 1
cut : (p n : ℕ) (l : List ℕ) → p ≤ n → take n (take p l ++ drop (suc p) l) ≡ take p (take (suc n) l) ++ drop (suc p) (take (suc n) l)
cut zero zero [] le = refl
cut zero (suc n) [] le = refl
cut zero n (y ∷ ys) le = refl
cut (suc p) zero l le = absurd (omega arith)
cut (suc p) (suc n) [] le = refl
cut (suc p) (suc n) (y ∷ ys) le = ap (λ (r : List ℕ). y ∷ r) (cut p n ys (omega arith))

pub length_moved : (p x : ℕ) (l : List ℕ) → p < length l → length (moved p x l) ≡ length l
length_moved p x l lt =
    omega (arith, length-append (take p l) (drop (suc p) l), length-take-le p l (omega arith), length-drop (suc p) l)

module _ (l : List ℕ) (n x : ℕ) (room : n ≤ length l) where
  -- x was among the first n
  pub front-found : (p : ℕ) → p ≡ frame_in x (take n l) → p < n → take n (moved p x l) ≡ to_front x (take n l)
  front-found p e lt = go n refl
    where
      go : (m : ℕ) → n ≡ m → take n (moved p x l) ≡ to_front x (take n l)
      go zero z = absurd (omega arith)
      go (suc m) z =
          let here : frame_in x (take (suc m) l) ≡ p = sym (e ∙ ap (λ (k : ℕ). frame_in x (take k l)) z) in
          rw (z, without-index x (take (suc m) l), here) (ap (λ (r : List ℕ). x ∷ r) (cut p m l (omega arith)))

  -- it was not, and comes before them
  pub front-first : (p : ℕ) → p ≡ frame_in x (take n l) → n ≤ p → take (suc n) (moved p x l) ≡ to_front x (take n l)
  front-first p e le =
      let size = length-take-le n l room in
      let all : p ≡ n = omega (arith, index-within x (take n l)) in
      rw (all) (ap (λ (r : List ℕ). x ∷ r) (take_at (take n l) (drop (suc n) l) n size ∙ sym (same (rw all at e))))
    where
      same : n ≡ frame_in x (take n l) → without x (take n l) ≡ take n l
      same h = without-index x (take n l) ∙ rw (← h) (joined (take n l) (length-take-le n l room))
        where
          joined : (q : List ℕ) → length q ≡ n → take n q ++ drop (suc n) q ≡ q
          joined q s = rw (take_all n q (omega arith), drop_of_length-le q {i = suc n} (omega arith)) (append-nil q)
