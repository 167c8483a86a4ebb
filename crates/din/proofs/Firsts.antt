-- Laws of pages numbered by first appearance.
use Prim.Native.Nat.{ℕ, zero, suc, ◌≤◌, ◌<◌, max}
use mathlib.Core.Path.{◌≡◌, refl, sym, ap, ◌∙◌}
use mathlib.Core.Bool.{Bool, true, false, cond}
use mathlib.Core.List.{List, [], ◌∷◌, ◌++◌, map}
use native.Mathlib.Omega.{arith}
use borrow.Author.Tests.{lt-ltb, le-ltb, ltb-true, ltb-false, eq-eqb, ne_eqb, eqb-true}
use Rattle.std.proofs.lemmas.List.{map-append}
use lib.Dec.{eqb, ltb}
use lib.ListN.{length, get_or, take, drop, length-append, length-map, get_or-map}
use lib.Seq.{split_at}
use Rattle.model.proofs.Lists.{get_or-any}
use Rattle.din.specs.Pages.{place_in, with_page, firsts_after, firsts, segments_of}

-- ---- the place of a page in a list

pub place-le : (F : List ℕ) (p : ℕ) → place_in F p ≤ length F
unfolding place_in
place-le [] p = omega arith
place-le (q ∷ F) p = go (eqb q p) (place-le F p)
  where
    go : (t : Bool) → place_in F p ≤ length F → cond t 0 (suc (place_in F p)) ≤ suc (length F)
    go true le = omega arith
    go false le = omega arith

-- the page at its place
pub place-page : (F : List ℕ) (p : ℕ) → place_in F p < length F → get_or F (place_in F p) 0 ≡ p
unfolding place_in
place-page [] p lt = absurd (omega arith)
place-page (q ∷ F) p lt = go (place-page F p) (eqb q p) refl lt
  where
    go : (place_in F p < length F → get_or F (place_in F p) 0 ≡ p) → (t : Bool) → eqb q p ≡ t
        → cond t 0 (suc (place_in F p)) < suc (length F) → get_or (q ∷ F) (cond t 0 (suc (place_in F p))) 0 ≡ p
    go more true e lt = eqb-true q p e
    go more false e lt = more (omega arith)

-- a page that is there has the same place in a longer list
pub place-old : (F G : List ℕ) (p : ℕ) → place_in F p < length F → place_in (F ++ G) p ≡ place_in F p
unfolding place_in
place-old [] G p lt = absurd (omega arith)
place-old (q ∷ F) G p lt = go (place-old F G p) (eqb q p) lt
  where
    go : (place_in F p < length F → place_in (F ++ G) p ≡ place_in F p) → (t : Bool)
        → cond t 0 (suc (place_in F p)) < suc (length F) → cond t 0 (suc (place_in (F ++ G) p)) ≡ cond t 0 (suc (place_in F p))
    go more true lt = refl
    go more false lt = ap suc (more (omega arith))

-- a new one has the place behind the list
pub place-new : (F : List ℕ) (p : ℕ) → length F ≤ place_in F p → place_in (F ++ (p ∷ [])) p ≡ place_in F p
unfolding place_in
place-new [] p le = rw (eq-eqb p p refl) refl
place-new (q ∷ F) p le = go (place-new F p) (eqb q p) le
  where
    go : (length F ≤ place_in F p → place_in (F ++ (p ∷ [])) p ≡ place_in F p) → (t : Bool)
        → suc (length F) ≤ cond t 0 (suc (place_in F p)) → cond t 0 (suc (place_in (F ++ (p ∷ [])) p)) ≡ cond t 0 (suc (place_in F p))
    go more true le = refl
    go more false le = ap suc (more (omega arith))

-- any other is as absent as before
place-absent : (F : List ℕ) (p q : ℕ) → (q ≡ p → ⊥) → length F ≤ place_in F q → suc (length F) ≤ place_in (F ++ (p ∷ [])) q
unfolding place_in
place-absent [] p q ne le = rw (ne_eqb p q (λ e. ne (sym e))) (omega arith)
place-absent (x ∷ F) p q ne le = go (place-absent F p q ne) (eqb x q) le
  where
    go : (length F ≤ place_in F q → suc (length F) ≤ place_in (F ++ (p ∷ [])) q) → (t : Bool)
        → suc (length F) ≤ cond t 0 (suc (place_in F q)) → suc (suc (length F)) ≤ cond t 0 (suc (place_in (F ++ (p ∷ [])) q))
    go more true le = absurd (omega arith)
    go more false le = omega (arith, more (omega arith))

-- ---- one page more

module _ (F : List ℕ) (p : ℕ) where
  with-old : place_in F p < length F → with_page F p ≡ F
  unfolding with_page
  with-old lt = rw (lt-ltb (place_in F p) (length F) lt) refl

  with-new : length F ≤ place_in F p → with_page F p ≡ F ++ (p ∷ [])
  unfolding with_page
  with-new le = rw (le-ltb (place_in F p) (length F) le) refl

  -- it has the place that it had, or the next one
  pub with-place : place_in (with_page F p) p ≡ place_in F p
  with-place = go (ltb (place_in F p) (length F)) refl
    where
      go : (t : Bool) → ltb (place_in F p) (length F) ≡ t → place_in (with_page F p) p ≡ place_in F p
      go true e = rw (with-old (ltb-true (place_in F p) (length F) e)) refl
      go false e =
          let le = ltb-false (place_in F p) (length F) e in
          rw (with-new le) (place-new F p le)

  pub with-length : length (with_page F p) ≡ max (length F) (suc (place_in F p))
  with-length = go (ltb (place_in F p) (length F)) refl
    where
      go : (t : Bool) → ltb (place_in F p) (length F) ≡ t → length (with_page F p) ≡ max (length F) (suc (place_in F p))
      go true e =
          let lt = ltb-true (place_in F p) (length F) e in
          rw (with-old lt) (omega arith)
      go false e =
          let le = ltb-false (place_in F p) (length F) e in
          rw (with-new le) (omega (arith, length-append F (p ∷ []), place-le F p))

  -- the others stay
  pub with-stays : (q : ℕ) → place_in F q < length F → place_in (with_page F p) q ≡ place_in F q
  with-stays q lt = go (ltb (place_in F p) (length F)) refl
    where
      go : (t : Bool) → ltb (place_in F p) (length F) ≡ t → place_in (with_page F p) q ≡ place_in F q
      go true e = rw (with-old (ltb-true (place_in F p) (length F) e)) refl
      go false e = rw (with-new (ltb-false (place_in F p) (length F) e)) (place-old F (p ∷ []) q lt)

  -- none is lost
  pub with-keeps : (q : ℕ) → place_in F q < length F → place_in (with_page F p) q < length (with_page F p)
  with-keeps q lt = omega (arith, with-stays q lt, with-length)

  pub with-has : place_in (with_page F p) p < length (with_page F p)
  with-has = omega (arith, with-place, with-length)

  -- and no other comes in
  pub with-other : (q : ℕ) → (q ≡ p → ⊥) → place_in (with_page F p) q < length (with_page F p) → place_in F q < length F
  with-other q ne lt = go (ltb (place_in F p) (length F)) refl (ltb (place_in F q) (length F)) refl
    where
      go : (t : Bool) → ltb (place_in F p) (length F) ≡ t → (u : Bool) → ltb (place_in F q) (length F) ≡ u → place_in F q < length F
      go t e true f = ltb-true (place_in F q) (length F) f
      go true e false f = rw (with-old (ltb-true (place_in F p) (length F) e)) at lt
      go false e false f =
          let inside = rw (with-new (ltb-false (place_in F p) (length F) e)) at lt in
          let out = place-absent F p q ne (ltb-false (place_in F q) (length F) f) in
          absurd (omega (arith, length-append F (p ∷ [])))

-- ---- the different pages of a list

-- one list after another
pub firsts-append : (F ps qs : List ℕ) → firsts_after F (ps ++ qs) ≡ firsts_after (firsts_after F ps) qs
unfolding firsts_after
firsts-append F [] qs = refl
firsts-append F (p ∷ ps) qs = firsts-append (with_page F p) ps qs

-- those before stay
pub firsts-stays : (F ps : List ℕ) (q : ℕ) → place_in F q < length F
    → (place_in (firsts_after F ps) q ≡ place_in F q) × (place_in (firsts_after F ps) q < length (firsts_after F ps))
unfolding firsts_after
firsts-stays F [] q lt = (refl, lt)
firsts-stays F (p ∷ ps) q lt =
    let more = firsts-stays (with_page F p) ps q (with-keeps F p q lt) in
    (more.0 ∙ with-stays F p q lt, more.1)

-- each page of the list is among them
pub firsts-has : (F ps : List ℕ) (i : ℕ) → i < length ps → place_in (firsts_after F ps) (get_or ps i 0) < length (firsts_after F ps)
unfolding firsts_after
firsts-has F [] i lt = absurd (omega arith)
firsts-has F (p ∷ ps) zero lt = (firsts-stays (with_page F p) ps p (with-has F p)).1
firsts-has F (p ∷ ps) (suc i) lt = firsts-has (with_page F p) ps i (omega arith)

-- and no other
pub firsts-absent : (F ps : List ℕ) (q : ℕ) → ((i : ℕ) → i < length ps → get_or ps i 0 ≡ q → ⊥) → length F ≤ place_in F q
    → length (firsts_after F ps) ≤ place_in (firsts_after F ps) q
unfolding firsts_after
firsts-absent F [] q others le = le
firsts-absent F (p ∷ ps) q others le =
    firsts-absent (with_page F p) ps q (λ i lt. others (suc i) (omega arith))
    (go (ltb (place_in (with_page F p) q) (length (with_page F p))) refl)
  where
    go : (t : Bool) → ltb (place_in (with_page F p) q) (length (with_page F p)) ≡ t → length (with_page F p) ≤ place_in (with_page F p) q
    go true e =
        let other : q ≡ p → ⊥ = λ f. others 0 (omega arith) (sym f) in
        let inside = with-other F p q other (ltb-true (place_in (with_page F p) q) (length (with_page F p)) e) in
        absurd (omega arith)
    go false e = ltb-false (place_in (with_page F p) q) (length (with_page F p)) e

map_same : (f g : ℕ → ℕ) (ps : List ℕ) → ((i : ℕ) → i < length ps → f (get_or ps i 0) ≡ g (get_or ps i 0)) → map f ps ≡ map g ps
map_same f g [] h = refl
map_same f g (p ∷ ps) h = rw (h 0 (omega arith), map_same f g ps (λ i lt. h (suc i) (omega arith))) refl

module _ (ps : List ℕ) where
  pub one-more-firsts : (p : ℕ) → firsts (ps ++ (p ∷ [])) ≡ with_page (firsts ps) p
  unfolding firsts firsts_after
  one-more-firsts p = firsts-append [] ps (p ∷ [])

  pub known : (i : ℕ) → i < length ps → place_in (firsts ps) (get_or ps i 0) < length (firsts ps)
  unfolding firsts
  known i lt = firsts-has [] ps i lt

  pub segments-length : length (segments_of ps) ≡ length ps
  unfolding segments_of
  segments-length = length-map ps (place_in (firsts ps))

  -- the segments of the pages so far stay, and the next page gets its place among them
  pub one-more-segments : (p : ℕ) → segments_of (ps ++ (p ∷ [])) ≡ segments_of ps ++ (place_in (firsts ps) p ∷ [])
  unfolding segments_of
  one-more-segments p =
      map-append (place_in (firsts (ps ++ (p ∷ [])))) ps (p ∷ [])
      ∙ rw (one-more-firsts p, with-place (firsts ps) p)
      (ap (λ (l : List ℕ). l ++ (place_in (firsts ps) p ∷ []))
      (map_same (place_in (with_page (firsts ps) p)) (place_in (firsts ps)) ps
      (λ i lt. with-stays (firsts ps) p (get_or ps i 0) (known i lt))))

  -- the segment of a touch
  pub segment-at : (t d : ℕ) → t < length ps → get_or (segments_of ps) t d ≡ place_in (firsts ps) (get_or ps t 0)
  unfolding segments_of
  segment-at t d lt =
      get_or-any (map (place_in (firsts ps)) ps) t d (place_in (firsts ps) 0) (omega (arith, length-map ps (place_in (firsts ps))))
      ∙ get_or-map (place_in (firsts ps)) ps t 0

  -- is the place of its page among the pages before it
  pub segment-before : (t d : ℕ) → t < length ps → get_or (segments_of ps) t d ≡ place_in (firsts (take t ps)) (get_or ps t 0)
  unfolding firsts firsts_after
  segment-before t d lt =
      let p = get_or ps t 0 in
      let F = firsts_after [] (take t ps) in
      let cut : firsts_after [] ps ≡ firsts_after (with_page F p) (drop (suc t) ps) =
      ap (firsts_after []) (split_at ps t 0 lt) ∙ firsts-append [] (take t ps) (p ∷ drop (suc t) ps) in
      segment-at t d lt ∙ rw cut ((firsts-stays (with_page F p) (drop (suc t) ps) p (with-has F p)).0 ∙ with-place F p)
