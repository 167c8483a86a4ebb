-- The table of the pages seen: what it holds, that a page is found in it by its number, and that it holds one page more after a store.
use Prim.Native.Nat.{ℕ, zero, suc, ◌+◌, ◌-◌, ◌≤◌, ◌<◌}
use mathlib.Core.Path.{◌≡◌, refl, sym, ap, ◌∙◌}
use mathlib.Core.Bool.{Bool, true, false, cond}
use mathlib.Core.List.{List, [], ◌∷◌, map}
use native.Mathlib.Omega.{arith}
use borrow.Author.Tests.{eq-eqb, ne_eqb, eqb-true, eqb-false, ltb-true, ltb-false}
use lib.Dec.{eqb, ltb}
use lib.ListN.{length, get_or, set, replicate, length-set, length-replicate, get_or-map}
use Rattle.std.specs.Prelude.{Option, None}
use Rattle.din.specs.declared.pages.Seen.{Seen}
use lib.Seq.{get_or-set_same, get_or-set_other}
use Rattle.model.specs.Values.{zeros}
use Rattle.din.specs.Pages.{place_in, with_page}
use Rattle.din.specs.inner.Held.{table_places, probe, empty_places, mark_of, marks_of, Found, number_at}
use Rattle.din.proofs.Firsts.{place-le, with-place, with-length, with-stays, with-keeps, with-has, with-other}

-- a page stands at a place that is reached from its home with no empty place on the way
pub record Reached (pages marks : List ℕ) (p : ℕ) : Type 0 where
  pub steps : ℕ
  pub here : get_or pages (probe p steps) 0 ≡ p
  pub marked : 1 ≤ get_or marks (probe p steps) 0
  pub way : (j : ℕ) → j < steps → 1 ≤ get_or marks (probe p j) 0

-- the table holds the different pages F: a mark is one more than the number of the page beside it, and each page is reached
pub record Table (pages marks F : List ℕ) : Type 0 where
  pub pages_whole : length pages ≡ table_places
  pub marks_whole : length marks ≡ table_places
  pub marked : (i : ℕ) → 1 ≤ get_or marks i 0
      → (get_or marks i 0 ≡ suc (place_in F (get_or pages i 0))) × (place_in F (get_or pages i 0) < length F)
  pub reached : (p : ℕ) → place_in F p < length F → Reached pages marks p
  pub free : empty_places marks + length F ≡ table_places

-- ---- the empty table

pub map-same : {X Y : Type 0} (f : X → Y) (n : ℕ) (x : X) → map f (replicate n x) ≡ replicate n (f x)
map-same f zero x = refl
map-same f (suc n) x = rw (map-same f n x)

empty-zeros : (n : ℕ) → empty_places (replicate n 0) ≡ n
unfolding empty_places
empty-zeros zero = refl
empty-zeros (suc n) = omega (arith, empty-zeros n)

zeros-zero : (n i : ℕ) → ◌≡◌ {A = ℕ} (get_or (replicate n 0) i 0) 0
zeros-zero zero i = refl
zeros-zero (suc n) zero = refl
zeros-zero (suc n) (suc i) = zeros-zero n i

pub table-start : Table (zeros table_places) (zeros table_places) []
unfolding zeros
table-start =
    record {
      pages_whole = length-replicate {A = ℕ} table_places 0;
      marks_whole = length-replicate {A = ℕ} table_places 0;
      marked = λ i some. absurd (omega (arith, zeros-zero table_places i));
      reached = λ p lt. absurd (omega arith);
      free = omega (arith, empty-zeros table_places);
    }

-- the number of the page at a place of the table, by its mark
pub number-marked : (table : List (Option Seen)) (place next : ℕ)
    → number_at (mark_of (get_or table place None)) next ≡ number_at (get_or (marks_of table) place 0) next
number-marked table place next = ap (λ (m : ℕ). number_at m next) (sym (get_or-map mark_of table place None))

-- ---- a mark stored

module _ (v : ℕ) where
  empty-new : (marks : List ℕ) (i : ℕ) → i < length marks → get_or marks i 0 ≡ 0 → empty_places marks
      ≡ suc (empty_places (set marks i (v + 1)))
  unfolding empty_places
  empty-new [] i lt e = absurd (omega arith)
  empty-new (m ∷ marks) zero lt e = rw (eq-eqb m 0 e, ne_eqb (v + 1) 0 (λ f. omega arith)) (omega arith)
  empty-new (m ∷ marks) (suc i) lt e = omega (arith, empty-new marks i (omega arith) e)

  empty-old : (marks : List ℕ) (i : ℕ) → 1 ≤ get_or marks i 0 → empty_places (set marks i (v + 1)) ≡ empty_places marks
  unfolding empty_places
  empty-old [] i some = refl
  empty-old (m ∷ marks) zero some = rw (ne_eqb m 0 (λ f. omega arith), ne_eqb (v + 1) 0 (λ f. omega arith)) refl
  empty-old (m ∷ marks) (suc i) some = omega (arith, empty-old marks i some)

module _ (pages marks F : List ℕ) (T : Table pages marks F) (p place : ℕ) (f : Found pages marks p place) where
  -- the place of a page found is one of the table
  pub found_below : place < table_places
  found_below = omega (arith, f.place_is)

  -- a page that is there is not passed by
  found-absent : get_or marks place 0 ≡ 0 → length F ≤ place_in F p
  found-absent e = go (ltb (place_in F p) (length F)) refl
    where
      here : get_or marks (probe p f.steps) 0 ≡ 0
      here = rw f.place_is at e

      not-here : (r : Reached pages marks p) (t : Bool) → ltb r.steps f.steps ≡ t → (u : Bool) → ltb f.steps r.steps ≡ u → ⊥
      not-here r true l u m = (f.passed r.steps (ltb-true r.steps f.steps l)).1 r.here
      not-here r false l true m = omega (arith, here, r.way f.steps (ltb-true f.steps r.steps m))
      not-here r false l false m =
          let same : r.steps ≡ f.steps = omega (arith, ltb-false r.steps f.steps l, ltb-false f.steps r.steps m) in
          omega (arith, here, rw same at r.marked)

      go : (t : Bool) → ltb (place_in F p) (length F) ≡ t → length F ≤ place_in F p
      go true l =
          let r = T.reached p (ltb-true (place_in F p) (length F) l) in
          absurd (not-here r (ltb r.steps f.steps) refl (ltb f.steps r.steps) refl)
      go false l = ltb-false (place_in F p) (length F) l

  -- the mark of a page found
  found-mark : 1 ≤ get_or marks place 0 → (get_or marks place 0 ≡ suc (place_in F p)) × (place_in F p < length F)
  found-mark more = rw (f.here more) at (T.marked place more)

  -- the number of the page is its place among the pages seen
  pub found_number : number_at (get_or marks place 0) (length F) ≡ place_in F p
  found_number = go (eqb (get_or marks place 0) 0) refl
    where
      go : (t : Bool) → eqb (get_or marks place 0) 0 ≡ t → cond t (length F) (get_or marks place 0 - 1) ≡ place_in F p
      go true e = omega (arith, found-absent (eqb-true (get_or marks place 0) 0 e), place-le F p)
      go false e =
          let more : 1 ≤ get_or marks place 0 = omega (arith, eqb-false (get_or marks place 0) 0 e) in
          omega (arith, found-mark more)

  -- the table with the page and its mark at the place
  module _ (s : ℕ) (number : s ≡ place_in F p) where
    -- a mark stays a mark
    mark-stays : (i : ℕ) → 1 ≤ get_or marks i 0 → 1 ≤ get_or (set marks place (s + 1)) i 0
    mark-stays i more = go (eqb i place) refl
      where
        go : (t : Bool) → eqb i place ≡ t → 1 ≤ get_or (set marks place (s + 1)) i 0
        go true e =
            rw (eqb-true i place e, get_or-set_same marks place (s + 1) 0 (omega (arith, found_below, T.marks_whole))) (omega arith)
        go false e = rw (get_or-set_other marks place i (s + 1) 0 (eqb-false i place e)) more

    stored-marked : (i : ℕ) → 1 ≤ get_or (set marks place (s + 1)) i 0
        → (get_or (set marks place (s + 1)) i 0 ≡ suc (place_in (with_page F p) (get_or (set pages place p) i 0)))
        × (place_in (with_page F p) (get_or (set pages place p) i 0) < length (with_page F p))
    stored-marked i more = go (eqb i place) refl
      where
        go : (t : Bool) → eqb i place ≡ t
            → (get_or (set marks place (s + 1)) i 0 ≡ suc (place_in (with_page F p) (get_or (set pages place p) i 0)))
            × (place_in (with_page F p) (get_or (set pages place p) i 0) < length (with_page F p))
        go true e =
            rw (
              eqb-true i place e,
              get_or-set_same marks place (s + 1) 0 (omega (arith, found_below, T.marks_whole)),
              get_or-set_same pages place p 0 (omega (arith, found_below, T.pages_whole)),
            )
            (omega (arith, with-place F p), with-has F p)
        go false e =
            let ne = eqb-false i place e in
            let m = T.marked i (rw (get_or-set_other marks place i (s + 1) 0 ne) at more) in
            rw (get_or-set_other marks place i (s + 1) 0 ne, get_or-set_other pages place i p 0 ne)
            (m.0 ∙ ap suc (sym (with-stays F p (get_or pages i 0) m.1)), with-keeps F p (get_or pages i 0) m.1)

    stored-reached : (q : ℕ) → place_in (with_page F p) q < length (with_page F p) → Reached (set pages place p) (set marks place (s + 1)) q
    stored-reached q lt = go (eqb q p) refl
      where
        -- another page stays where it stands
        stays : (q ≡ p → ⊥) → (r : Reached pages marks q) → (t : Bool) → eqb (probe q r.steps) place ≡ t
            → get_or (set pages place p) (probe q r.steps) 0 ≡ q
        stays ne r true e =
            let at = eqb-true (probe q r.steps) place e in
            absurd (ne (sym r.here ∙ rw at (f.here (rw at at r.marked))))
        stays ne r false e = rw (get_or-set_other pages place (probe q r.steps) p 0 (eqb-false (probe q r.steps) place e)) r.here

        go : (t : Bool) → eqb q p ≡ t → Reached (set pages place p) (set marks place (s + 1)) q
        go true e =
            rw (eqb-true q p e)
            (record {
              steps = f.steps;
              here = rw (← f.place_is) (get_or-set_same pages place p 0 (omega (arith, found_below, T.pages_whole)));
              marked =
                  rw (← f.place_is, get_or-set_same marks place (s + 1) 0 (omega (arith, found_below, T.marks_whole))) (omega arith);
              way = λ j l. mark-stays (probe p j) (f.passed j l).0;
            })
        go false e =
            let ne = eqb-false q p e in
            let r = T.reached q (with-other F p q ne lt) in
            record {
              steps = r.steps;
              here = stays ne r (eqb (probe q r.steps) place) refl;
              marked = mark-stays (probe q r.steps) r.marked;
              way = λ j l. mark-stays (probe q j) (r.way j l);
            }

    stored-free : empty_places (set marks place (s + 1)) + length (with_page F p) ≡ table_places
    stored-free = go (eqb (get_or marks place 0) 0) refl
      where
        go : (t : Bool) → eqb (get_or marks place 0) 0 ≡ t → empty_places (set marks place (s + 1)) + length (with_page F p) ≡ table_places
        go true e =
            let none = eqb-true (get_or marks place 0) 0 e in
            omega (
              arith,
              T.free,
              with-length F p,
              place-le F p,
              found-absent none,
              empty-new s marks place (omega (arith, found_below, T.marks_whole)) none,
            )
        go false e =
            let more : 1 ≤ get_or marks place 0 = omega (arith, eqb-false (get_or marks place 0) 0 e) in
            omega (arith, T.free, with-length F p, found-mark more, empty-old s marks place more)

    pub table-next : Table (set pages place p) (set marks place (s + 1)) (with_page F p)
    table-next =
        record {
          pages_whole = length-set pages place p ∙ T.pages_whole;
          marks_whole = length-set marks place (s + 1) ∙ T.marks_whole;
          marked = stored-marked;
          reached = stored-reached;
          free = stored-free;
        }
