-- A list of numbers written to a place, from the last to the first and from the first to the last.
use Prim.Native.Nat.{ℕ, suc, ◌≤◌, ◌<◌}
use mathlib.Core.Path.{◌≡◌, sym, ap, ◌∙◌}
use mathlib.Core.List.{List, [], ◌∷◌, ◌++◌}
use native.Mathlib.Omega.{arith}
use lib.ListN.{length, get_or, take, drop, set, take-append-drop, drop_of_length-le}
use lib.Seq.{take-suc, drop-cons, append_snoc, set_at, take_all, length-take-le}
use Rattle.model.specs.Sums.{tabulate}
use Rattle.model.proofs.Tables.{length-tabulate, get_or-tabulate}

-- the last of the first entries of a list set to v, and r behind them
pub set_back : (l : List ℕ) (i v : ℕ) (r : List ℕ) → i < length l → set (take (suc i) l ++ r) i v ≡ take i l ++ (v ∷ r)
set_back l i v r lt =
    ap (λ (q : List ℕ). set (q ++ r) i v) (take-suc l i 0 lt)
    ∙ (ap (λ (q : List ℕ). set q i v) (append_snoc (take i l) (get_or l i 0) r)
    ∙ set_at (take i l) (get_or l i 0) r v i (length-take-le i l (omega arith)))

-- a list of n numbers written to a place
module _ (n : ℕ) (f : ℕ → ℕ) (place : List ℕ) where
  -- the numbers from k on, and the first k
  abbrev pub from_back : ℕ → List ℕ
  from_back k = take k place ++ (drop k (tabulate n f) ++ drop n place)

  abbrev pub from_front : ℕ → List ℕ
  from_front k = take k (tabulate n f) ++ drop k place

  module _ (room : n ≤ length place) where
    pub back_start : place ≡ from_back n
    back_start = rw (drop_of_length-le (tabulate n f) {i = n} (omega (arith, length-tabulate n f))) (sym (take-append-drop n place))

    pub back-next : (k : ℕ) → k < n → set (from_back (suc k)) k (f k) ≡ from_back k
    back-next k lt =
        set_back place k (f k) (drop (suc k) (tabulate n f) ++ drop n place) (omega arith)
        ∙ ap (λ (q : List ℕ). take k place ++ (q ++ drop n place)) behind
      where
        behind : f k ∷ drop (suc k) (tabulate n f) ≡ drop k (tabulate n f)
        behind = rw (← get_or-tabulate n f k 0 lt) (sym (drop-cons (tabulate n f) k 0 (omega (arith, length-tabulate n f))))

    pub front-next : (k v : ℕ) → k < n → v ≡ f k → set (from_front k) k v ≡ from_front (suc k)
    front-next k v lt is =
        ap (λ (r : List ℕ). set (take k (tabulate n f) ++ r) k v) (drop-cons place k 0 (omega arith))
        ∙ (set_at (take k (tabulate n f)) (get_or place k 0) (drop (suc k) place) v k
        (length-take-le k (tabulate n f) (omega (arith, length-tabulate n f)))
        ∙ (sym (append_snoc (take k (tabulate n f)) v (drop (suc k) place)) ∙ ap (λ (r : List ℕ). r ++ drop (suc k) place) one_more))
      where
        one_more : take k (tabulate n f) ++ (v ∷ []) ≡ take (suc k) (tabulate n f)
        one_more = rw (take-suc (tabulate n f) k 0 (omega (arith, length-tabulate n f)), get_or-tabulate n f k 0 lt, is)

    pub front-end : (k : ℕ) → k ≤ n → n ≤ k → from_front k ≡ tabulate n f ++ drop n place
    front-end k le ge =
        let all : k ≡ n = omega arith in
        rw (all, take_all n (tabulate n f) (omega (arith, length-tabulate n f)))
