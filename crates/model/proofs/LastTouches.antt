-- The table of last touches, which the code keeps instead of unreferenced times: how a step changes it, and what it tells.
use Prim.Native.Nat.{ℕ, zero, suc, ◌-◌, ◌≤◌, ◌<◌}
use mathlib.Core.Path.{◌≡◌, refl, sym, ap, ◌∙◌}
use mathlib.Core.Bool.{Bool, true, false, cond}
use mathlib.Core.List.{List, [], ◌∷◌, ◌++◌}
use mathlib.Core.Option.{Option, none, some}
use native.Mathlib.Omega.{arith}
use lib.Dec.{eqb, leb}
use lib.ListN.{length, get_or, set, take}
use lib.Seq.{take-suc}
use borrow.Author.Tests.{eq-eqb, ne_eqb, le-leb, lt-leb}
use Rattle.model.specs.Sums.{tabulate}
use Rattle.model.specs.LastTouches.{untouched_mark, start_table, last_from, last_table}
use Rattle.model.specs.Sheets.{listed, most_segs}
use Rattle.model.specs.Traces.{Trace, segs, entry, touched, later, unreferenced}
use Rattle.model.proofs.Tables.{length-tabulate, get_or-tabulate, tabulate-eq, tabulate-set}
use Rattle.model.proofs.Touches.{touched-at, touched-is, idle-touched, unreferenced-none, unreferenced-touched, unreferenced-later}

pub length-last_table : (T : Trace) (n : ℕ) → length (last_table T n) ≡ 256
unfolding last_table
length-last_table T n = length-tabulate 256 (λ i. last_from n (unreferenced T n i))

pub last_table-at : (T : Trace) (n i d : ℕ) → i < 256 → get_or (last_table T n) i d ≡ last_from n (unreferenced T n i)
unfolding last_table
last_table-at T n i d lt = get_or-tabulate 256 (λ i. last_from n (unreferenced T n i)) i d lt

-- no segment is one of none; one more is listed after the others
pub listed-none : (i : ℕ) → listed [] i ≡ false
unfolding listed
listed-none i = refl

pub listed_more : (xs : List ℕ) (x i : ℕ) → listed (xs ++ (x ∷ [])) i ≡ cond (eqb x i) true (listed xs i)
unfolding listed
listed_more [] x i = refl
listed_more (y ∷ ys) x i = rw (listed_more ys x i) (go (eqb y i) (eqb x i) (listed ys i))
  where
    go : (b c d : Bool) → cond b true (cond c true d) ≡ cond c true (cond b true d)
    go true true d = refl
    go true false d = refl
    go false true d = refl
    go false false d = refl

-- the table of warm segments, filled one by one: one more, and one that has no place in it
module _ (xs : List ℕ) (n : ℕ) (lt : n < length xs) where
  more : (i : ℕ) → listed (take (suc n) xs) i ≡ cond (eqb (get_or xs n 0) i) true (listed (take n xs) i)
  more i = rw (take-suc xs n 0 lt) (listed_more (take n xs) (get_or xs n 0) i)

  pub start_table-more : get_or xs n 0 < most_segs → set (start_table (take n xs)) (get_or xs n 0) 0 ≡ start_table (take (suc n) xs)
  unfolding start_table
  start_table-more few =
      let here : cond (listed (take (suc n) xs) (get_or xs n 0)) 0 untouched_mark ≡ 0 =
      rw (more (get_or xs n 0), eq-eqb (get_or xs n 0) (get_or xs n 0) refl) refl in
      ap (λ (x : ℕ). set (start_table (take n xs)) (get_or xs n 0) x) (sym here)
      ∙ tabulate-set most_segs (λ i. cond (listed (take n xs) i) 0 untouched_mark) (λ i. cond (listed (take (suc n) xs) i) 0 untouched_mark)
      (get_or xs n 0) few (λ i l other. rw (more i, ne_eqb (get_or xs n 0) i (λ same. other (sym same))) refl)

  pub start_table-beyond : most_segs ≤ get_or xs n 0 → start_table (take n xs) ≡ start_table (take (suc n) xs)
  unfolding start_table
  start_table-beyond many =
      tabulate-eq most_segs (λ i. cond (listed (take n xs) i) 0 untouched_mark) (λ i. cond (listed (take (suc n) xs) i) 0 untouched_mark)
      (λ i l. rw (more i, ne_eqb (get_or xs n 0) i (λ same. absurd (omega arith))) refl)

-- one more step changes what the table holds for no other segment
pub last-later : (n : ℕ) (o : Option ℕ) → last_from (suc n) (later o) ≡ last_from n o
unfolding later
last-later n none = refl
last-later n (some k) = omega arith

-- a time that is one step later
pub later-some : (o : Option ℕ) (k : ℕ) → later o ≡ some k → (j : ℕ) × (o ≡ some j) × (k ≡ suc j)
unfolding later
later-some none k e = let z : ◌≡◌ {A = ℕ} 0 1 = cc in absurd (omega arith)
later-some (some j) k e = (j, refl, cc)

-- before step 1 the segments of the start set have the mark 0, and all others are untouched
pub last_table-from : (T : Trace) → last_table T 0 ≡ tabulate 256 (λ i. cond (T.start i) 0 untouched_mark)
unfolding last_table
last_table-from T =
    tabulate-eq 256 (λ i. last_from 0 (unreferenced T 0 i)) (λ i. cond (T.start i) 0 untouched_mark)
    (λ i lt. rw (unreferenced-none T i) (go (T.start i)))
  where
    go : (b : Bool) → last_from 0 (cond b (some 0) none) ≡ cond b 0 untouched_mark
    go true = omega arith
    go false = refl

-- so it is the table of the warm segments
pub start_table-is : (T : Trace) (warm : List ℕ) → ((i : ℕ) → T.start i ≡ listed warm i) → start_table warm ≡ last_table T 0
unfolding start_table
start_table-is T warm same =
    tabulate-eq most_segs (λ i. cond (listed warm i) 0 untouched_mark) (λ i. cond (T.start i) 0 untouched_mark) (λ i lt. rw (same i) refl)
    ∙ sym (last_table-from T)

-- an unreferenced time is at most the number of steps
pub unreferenced-within : (T : Trace) (n i k : ℕ) → unreferenced T n i ≡ some k → k ≤ n
unreferenced-within T zero i k e = go (T.start i) (sym (unreferenced-none T i) ∙ e)
  where
    go : (b : Bool) → ◌≡◌ {A = Option ℕ} (cond b (some 0) none) (some k) → k ≤ 0
    go true f = let z : 0 ≡ k = cc in omega arith
    go false f = let z : ◌≡◌ {A = ℕ} 0 1 = cc in absurd (omega arith)
unreferenced-within T (suc n) i k e = go (touched T n i) refl (unreferenced-within T n i)
  where
    go : (b : Bool) → touched T n i ≡ b → ((j : ℕ) → unreferenced T n i ≡ some j → j ≤ n) → k ≤ suc n
    go true m below =
        let same : some 0 ≡ some k = sym (unreferenced-touched T n i m) ∙ e in
        let z : 0 ≡ k = cc in
        omega arith
    go false m below =
        let found = later-some (unreferenced T n i) k (sym (unreferenced-later T n i m) ∙ e) in
        omega (arith, found.2, below found.0 found.1)

-- a step changes no entry of a segment that it does not touch
mark-later : (T : Trace) (t i : ℕ) → touched T t i ≡ false → last_from (suc t) (unreferenced T (suc t) i) ≡ last_from t (unreferenced T t i)
mark-later T t i m = rw (unreferenced-later T t i m) (last-later t (unreferenced T t i))

-- a touch in the next step sets the touched segment's entry to the number of that step
pub last_table-step : (T : Trace) (t : ℕ) → entry T t < segs T → segs T ≤ 256
    → set (last_table T t) (entry T t) (suc t) ≡ last_table T (suc t)
unfolding last_table
last_table-step T t lt few =
    let here : last_from (suc t) (unreferenced T (suc t) (entry T t)) ≡ suc t =
    rw (unreferenced-touched T t (entry T t) (touched-at T t lt)) (omega arith)
    in
    ap (λ (x : ℕ). set (last_table T t) (entry T t) x) (sym here)
    ∙ tabulate-set 256 (λ i. last_from t (unreferenced T t i)) (λ i. last_from (suc t) (unreferenced T (suc t) i)) (entry T t) (omega arith)
    (λ i l other. mark-later T t i (touched-is T t i lt ∙ ne_eqb (entry T t) i (λ same. other (sym same))))

-- a step that touches nothing changes no entry
pub last_table-idle : (T : Trace) (t : ℕ) → segs T ≤ entry T t → last_table T t ≡ last_table T (suc t)
unfolding last_table
last_table-idle T t le =
    tabulate-eq 256 (λ i. last_from t (unreferenced T t i)) (λ i. last_from (suc t) (unreferenced T (suc t) i))
    (λ i l. sym (mark-later T t i (idle-touched T t i le)))

-- the entry of a segment tells its unreferenced time, from any start
pub last-time : (T : Trace) (n i d : ℕ) → i < 256 → n < untouched_mark
    → cond (leb (get_or (last_table T n) i d) n) (some (n - get_or (last_table T n) i d)) none ≡ unreferenced T n i
last-time T n i d l lt = rw (last_table-at T n i d l) (go (unreferenced T n i) (unreferenced-within T n i))
  where
    go : (o : Option ℕ) → ((k : ℕ) → o ≡ some k → k ≤ n) → cond (leb (last_from n o) n) (some (n - last_from n o)) none ≡ o
    go none below = rw (lt-leb untouched_mark n lt) refl
    go (some k) below =
        let before = below k refl in
        let same : n - (n - k) ≡ k = omega arith in
        rw (le-leb (n - k) n (omega arith), same) refl
