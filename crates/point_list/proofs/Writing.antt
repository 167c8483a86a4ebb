-- The loop that writes the points: its start, one key more, and its end.
use Prim.Native.Nat.{ℕ, zero, suc, ◌+◌, ◌-◌, ◌*◌, ◌^◌, ◌≤◌, ◌<◌}
use mathlib.Core.Path.{◌≡◌, refl, ap, sym, ◌∙◌}
use mathlib.Core.Bool.{Bool, true, false, not, cond}
use mathlib.Core.Logic.{⊎_elim}
use mathlib.Core.List.{List, [], ◌∷◌, ◌++◌, append_assoc}
use native.Mathlib.Omega.{arith}
use native.Mathlib.Numerals.{add-one}
use lib.Dec.{eqb}
use borrow.Author.Tests.{eq-eqb, ne_eqb}
use borrow.Table.Steps.{cases}
use native.Mathlib.Nat.{eq-or-lt_of_le}
use lib.ListN.{length, get_or, set, drop, length-set, length-append}
use lib.Seq.{drop-cons, set_at}
use Rattle.std.specs.Int.{from_bool}
use Rattle.model.specs.Sums.{sum}
use Rattle.model.proofs.Sums.{sum-none, sum-suc}
use Rattle.point_list.specs.inner.Walk.{quotient_at, reuse_at, before_at, ended, first_cost, leader, memory_to, load_to, point_at}
use Rattle.point_list.specs.inner.Walk.{points_to}
use Rattle.point_list.specs.inner.Walk.{points_of, Writable}

-- one number more behind those written at the head of a place
put : (old p : List ℕ) (n v : ℕ) → length p ≡ n → n < length old → set (p ++ drop n old) n v ≡ (p ++ (v ∷ [])) ++ drop (suc n) old
put old p n v e lt =
    rw (drop-cons old n 0 lt) (set_at p (get_or old n 0) (drop (suc n) old) v n e ∙ sym (append_assoc p (v ∷ []) (drop (suc n) old)))

-- and four
four : (old p : List ℕ) (n a b c d : ℕ) → length p ≡ n → n + 3 < length old
    → set (set (set (set (p ++ drop n old) n a) (n + 1) b) (n + 2) c) (n + 3) d ≡ (p ++ (a ∷ b ∷ c ∷ d ∷ [])) ++ drop
    (suc (suc (suc (suc n)))) old
four old p n a b c d e lt =
    let one : n + 1 ≡ suc n = omega arith in
    let two : n + 2 ≡ suc (suc n) = omega arith in
    let three : n + 3 ≡ suc (suc (suc n)) = omega arith in
    let p₁ = p ++ (a ∷ []) in
    let p₂ = p₁ ++ (b ∷ []) in
    let p₃ = p₂ ++ (c ∷ []) in
    let e₁ : length p₁ ≡ suc n = length-append p (a ∷ []) ∙ omega arith in
    let e₂ : length p₂ ≡ suc (suc n) = length-append p₁ (b ∷ []) ∙ omega arith in
    let e₃ : length p₃ ≡ suc (suc (suc n)) = length-append p₂ (c ∷ []) ∙ omega arith in
    let join : p₃ ++ (d ∷ []) ≡ p ++ (a ∷ b ∷ c ∷ d ∷ []) =
    append_assoc p₂ (c ∷ []) (d ∷ []) ∙ append_assoc p₁ (b ∷ []) (c ∷ d ∷ []) ∙ append_assoc p (a ∷ []) (b ∷ c ∷ d ∷ []) in
    rw (
      one,
      two,
      three,
      put old p n a e (omega arith),
      put old p₁ (suc n) b e₁ (omega arith),
      put old p₂ (suc (suc n)) c e₂ (omega arith),
      put old p₃ (suc (suc (suc n))) d e₃ (omega arith),
    ) (ap (λ q. q ++ drop (suc (suc (suc (suc n)))) old) join)

-- a part of a sum is within it
sum-part : (n k : ℕ) (f : ℕ → ℕ) → k ≤ n → sum k f ≤ sum n f
sum-part zero k f le = let e : k ≡ 0 = omega arith in rw e (omega arith)
sum-part (suc n) k f le =
    ⊎_elim (λ e. rw e (omega arith)) (λ lt. omega (arith, sum-suc n f, sum-part n k f (omega arith))) (eq-or-lt_of_le le)

-- the point ends at key i, or goes on
pub ended-new : (keys : List ℕ) (i : ℕ) → (quotient_at keys i ≡ before_at keys i → ⊥) → ended keys (suc i) ≡ suc (ended keys i)
unfolding ended
ended-new keys i ne = rw (ne_eqb (quotient_at keys i) (before_at keys i) ne)

pub ended_same : (keys : List ℕ) (i : ℕ) → quotient_at keys i ≡ before_at keys i → ended keys (suc i) ≡ ended keys i
unfolding ended
ended_same keys i e = rw (eq-eqb (quotient_at keys i) (before_at keys i) e)

pub ended-next : (keys : List ℕ) (i : ℕ) → ended keys (suc i) ≡ ended keys i + cond (eqb (quotient_at keys i) (before_at keys i)) 0 1
unfolding ended
ended-next keys i =
    cases (eqb (quotient_at keys i) (before_at keys i)) (λ e. rw e (omega arith)) (λ e. rw e (omega arith))

pub ended-within : (keys : List ℕ) (i n : ℕ) → i ≤ n → ended keys i ≤ ended keys n
ended-within keys i zero le = let e : i ≡ 0 = omega arith in rw e (omega arith)
ended-within keys i (suc n) le =
    ⊎_elim (λ e. rw e (omega arith)) (λ lt. omega (arith, ended-within keys i n (omega arith), ended-next keys n)) (eq-or-lt_of_le le)

pub ended-most : (keys : List ℕ) (i : ℕ) → ended keys i ≤ i
unfolding ended
ended-most keys zero = omega arith
ended-most keys (suc i) =
    let rec = ended-most keys i in
    cases (eqb (quotient_at keys i) (before_at keys i)) (λ e. rw e (omega arith)) (λ e. rw e (omega arith))

-- 1 where a test fails
pub not-one : (b : Bool) → from_bool (not b) ≡ cond b 0 1
not-one true = refl
not-one false = refl

-- counted up to key k
pub record Counting (keys : List ℕ) (n count q k : ℕ) : Type 0 where
  pub within : k ≤ n
  pub count_is : count ≡ suc (ended keys k)
  pub quotient_is : q ≡ before_at keys k

pub counting-start : {keys : List ℕ} {n : ℕ} → Counting keys n 1 0 0
unfolding ended before_at
counting-start = record { within = omega arith; count_is = refl; quotient_is = refl }

pub counting-step : {keys : List ℕ} {n count q k d : ℕ} → Counting keys n count q k → k < n → d ≡ cond (eqb (quotient_at keys k) q) 0 1
    → Counting keys n (count + d) (quotient_at keys k) (k + 1)
unfolding before_at
counting-step {keys} {k} {d} v lt e =
    let d-is : d ≡ cond (eqb (quotient_at keys k) (before_at keys k)) 0 1 = e ∙ rw v.quotient_is in
    record {
      within = omega arith;
      count_is = rw (add-one k) (omega (arith, v.count_is, d-is, ended-next keys k));
      quotient_is = rw (add-one k);
    }

module _ (rs ws keys : List ℕ) (memory load n : ℕ) where
  pub points-length : (i : ℕ) → length (points_to rs ws keys memory load n i) ≡ 4 * ended keys i
  unfolding points_to ended
  points-length zero = refl
  points-length (suc i) =
      let rec = points-length i in
      cases (eqb (quotient_at keys i) (before_at keys i)) (λ e. rw e rec)
      (λ e. rw e (length-append (points_to rs ws keys memory load n i) (point_at rs ws keys memory load n i) ∙ omega (arith, rec)))

  -- before key i is looked at
  pub record Writing (old out : List ℕ) (r w m l q at i : ℕ) : Type 0 where
    pub within : i ≤ n
    pub whole : length out ≡ length old
    pub r_is : r ≡ (leader rs ws keys memory load n i).R
    pub w_is : w ≡ (leader rs ws keys memory load n i).w
    pub memory_is : m ≡ memory_to rs ws keys memory load n i
    pub load_is : l ≡ load_to rs ws keys memory load n i
    pub quotient_is : q ≡ before_at keys i
    pub place : at ≡ 4 * ended keys i
    pub out_is : out ≡ points_to rs ws keys memory load n i ++ drop (4 * ended keys i) old

pub writing_start : {rs ws keys : List ℕ} {memory load n : ℕ} {old : List ℕ} {w : ℕ} → w ≡ first_cost ws keys n
    → Writing rs ws keys memory load n old old 0 w memory load 0 0 0
unfolding leader before_at ended points_to
writing_start {rs} {ws} {keys} e =
    record {
      within = omega arith;
      whole = refl;
      r_is = refl;
      w_is = e;
      memory_is = omega (arith, sum-none (λ k. get_or rs (reuse_at keys k) 0));
      load_is = omega (arith, sum-none (λ k. get_or ws (reuse_at keys k) 0));
      quotient_is = refl;
      place = refl;
      out_is = refl;
    }

module _ {rs ws keys : List ℕ} {memory load n : ℕ} {old : List ℕ} (ok : Writable rs ws keys memory load n old) {out : List ℕ}
    {r w m l q at i : ℕ}
    (v : Writing rs ws keys memory load n old out r w m l q at i) where
  -- there is room for one point more
  pub point-room : at + 4 ≤ length out
  point-room = omega (arith, ok.room, v.whole, v.place, ended-within keys i n v.within)

  -- the four numbers of the point behind those that ended
  pub point-put : set (set (set (set out at r) (at + 1) w) (at + 2) m) (at + 3) l
      ≡ (points_to rs ws keys memory load n i ++ point_at rs ws keys memory load n i) ++ drop (4 * suc (ended keys i)) old
  point-put =
      let next : 4 * suc (ended keys i) ≡ suc (suc (suc (suc (4 * ended keys i)))) = omega arith in
      rw (v.place, v.out_is, v.r_is, v.w_is, v.memory_is, v.load_is, next)
      (four old (points_to rs ws keys memory load n i) (4 * ended keys i) (leader rs ws keys memory load n i).R
      (leader rs ws keys memory load n i).w (memory_to rs ws keys memory load n i) (load_to rs ws keys memory load n i)
      (points-length rs ws keys memory load n i) (omega (arith, ok.room, ended-within keys i n v.within)))

  module _ (lt : i < n) where
    -- R and w of the key's reuse
    abbrev r_at : ℕ
    r_at = get_or rs (reuse_at keys i) 0

    abbrev w_at : ℕ
    w_at = get_or ws (reuse_at keys i) 0

    pub memory-fits : m + r_at < 2 ^ 64
    memory-fits =
        omega (
          arith,
          v.memory_is,
          ok.sums.memory_small,
          sum-suc i (λ k. get_or rs (reuse_at keys k) 0),
          sum-part n (suc i) (λ k. get_or rs (reuse_at keys k) 0) lt,
        )

    cost-part : sum i (λ k. get_or ws (reuse_at keys k) 0) + w_at ≤ load
    cost-part =
        omega (
          arith,
          ok.sums.cost_within,
          sum-suc i (λ k. get_or ws (reuse_at keys k) 0),
          sum-part n (suc i) (λ k. get_or ws (reuse_at keys k) 0) lt,
        )

    pub load_fits : w_at ≤ l
    load_fits = omega (arith, v.load_is, cost-part)

    memory-next : m + r_at ≡ memory_to rs ws keys memory load n (suc i)
    memory-next = omega (arith, v.memory_is, sum-suc i (λ k. get_or rs (reuse_at keys k) 0))

    load-next : l - w_at ≡ load_to rs ws keys memory load n (suc i)
    load-next = omega (arith, v.load_is, cost-part, sum-suc i (λ k. get_or ws (reuse_at keys k) 0))

    pub writing-new : (quotient_at keys i ≡ q → ⊥) → {out' : List ℕ} {m' l' : ℕ}
        → out' ≡ set (set (set (set out at r) (at + 1) w) (at + 2) m) (at + 3) l → m' ≡ m + r_at → l' ≡ l - w_at
        → Writing rs ws keys memory load n old out' r_at w_at m' l' (quotient_at keys i) (at + 4) (i + 1)
    unfolding leader before_at points_to
    writing-new ne eo em el =
        let new : quotient_at keys i ≡ before_at keys i → ⊥ = λ e. ne (e ∙ sym v.quotient_is) in
        let test = ne_eqb (quotient_at keys i) (before_at keys i) new in
        let count = ended-new keys i new in
        record {
          within = omega arith;
          whole = ap length eo ∙ simp length-set v.whole;
          r_is = rw (add-one i, test);
          w_is = rw (add-one i, test);
          memory_is = em ∙ memory-next ∙ rw (add-one i);
          load_is = el ∙ load-next ∙ rw (add-one i);
          quotient_is = rw (add-one i);
          place = rw (add-one i) (omega (arith, v.place, count));
          out_is = rw (add-one i, count, test) (eo ∙ point-put);
        }

    pub writing-same : quotient_at keys i ≡ q → {m' l' : ℕ} → m' ≡ m + r_at → l' ≡ l - w_at
        → Writing rs ws keys memory load n old out r w m' l' (quotient_at keys i) at (i + 1)
    unfolding leader before_at points_to
    writing-same e em el =
        let same : quotient_at keys i ≡ before_at keys i = e ∙ v.quotient_is in
        let test = eq-eqb (quotient_at keys i) (before_at keys i) same in
        let count = ended_same keys i same in
        record {
          within = omega arith;
          whole = v.whole;
          r_is = rw (add-one i, test) v.r_is;
          w_is = rw (add-one i, test) v.w_is;
          memory_is = em ∙ memory-next ∙ rw (add-one i);
          load_is = el ∙ load-next ∙ rw (add-one i);
          quotient_is = rw (add-one i);
          place = rw (add-one i) (omega (arith, v.place, count));
          out_is = rw (add-one i, count, test) v.out_is;
        }

  pub writing-done : n ≤ i → set (set (set (set out at r) (at + 1) w) (at + 2) m) (at + 3) l
      ≡ points_of rs ws keys memory load n ++ drop (4 * suc (ended keys n)) old
  writing-done le =
      let done : i ≡ n = omega (arith, v.within) in
      point-put
      ∙ ap (λ (x : ℕ). (points_to rs ws keys memory load n x ++ point_at rs ws keys memory load n x) ++ drop (4 * suc (ended keys x)) old)
      done
