-- Going along the lines of a trace: what the table, the counts and the array of touches hold after the lines passed.
use Prim.Native.Nat.{ℕ, suc, ◌+◌, ◌≤◌, ◌<◌, max}
use mathlib.Core.Path.{◌≡◌, refl, sym, ap, ◌∙◌}
use mathlib.Core.Bool.{Bool, true, false, or-true}
use mathlib.Core.List.{List, [], ◌∷◌, ◌++◌}
use mathlib.Core.Option.{Option, none, some}
use Rattle.std.specs.Prelude.{Ok}
use native.Mathlib.Omega.{arith}
use borrow.Author.Tests.{lt-ltb, le-ltb}
use lib.Dec.{ltb}
use lib.ListN.{length, get_or, drop, set, length-append, length-replicate, drop_of_length-le}
use lib.Seq.{drop-drop}
use Rattle.model.specs.Sheets.{idle, most_segs, most_steps}
use Rattle.model.specs.Values.{zeros, idles, padded}
use Rattle.model.specs.declared.Refusal.TheVariants.{TraceMalformed, TraceTooLong}
use Rattle.model.proofs.Values.{padded-next}
use Rattle.scan.proofs.Tails.{tail, tail-is, tail-place}
use Rattle.din.specs.Lines.{Lines, end, line, trace_lines, address_of}
use Rattle.din.specs.Pages.{Touched, touches, refused, page_of, place_in, firsts}
use Rattle.din.specs.Pages.{firsts_after, segments_of, too_many, touched_from, touched_by}
use Rattle.din.specs.inner.FirstLine.{First, nothing, malformed, address, with_address, first_of}
use Rattle.din.specs.inner.Held.{table_places, empty_places, Found, number_at, imported_of}
use Rattle.din.proofs.Firsts.{with-length, place-le, one-more-firsts, one-more-segments, segments-length}
use Rattle.din.proofs.Table.{Table, table-start, found_number, table-next}

-- ---- the lines by the first of them

-- what lines after pages ps come to, by the page that the first touches
after_page : ℕ → List ℕ → Lines → Bool → Touched
after_page k ps more true = refused TraceTooLong
after_page k ps more false = touched_from k ps more

-- and by the first line
after_first : ℕ → List ℕ → First → Touched
after_first k ps nothing = touches ps
after_first k ps malformed = refused TraceMalformed
after_first k ps (address a more) = after_page k (ps ++ (page_of k a ∷ [])) more (too_many (ps ++ (page_of k a ∷ [])))

by_first : (k : ℕ) (ps : List ℕ) (L : Lines) → touched_from k ps L ≡ after_first k ps (first_of L)
unfolding touched_from first_of after_first after_page
by_first k ps (end []) = refl
by_first k ps (end (b ∷ s)) = refl
by_first k ps (line s more) = go (address_of s)
  where
    at : (qs : List ℕ) (t : Bool)
        → elim t [ true ↦ refused TraceTooLong | false ↦ touched_from k qs more ] ≡ after_page k qs more t
    at qs true = refl
    at qs false = refl

    go : (o : Option ℕ)
        → elim o [
          | none ↦ refused TraceMalformed
          | some a ↦
              elim (too_many (ps ++ (page_of k a ∷ []))) [
                | true ↦ refused TraceTooLong
                | false ↦ touched_from k (ps ++ (page_of k a ∷ [])) more
              ]
        ] ≡ after_first k ps (with_address o more)
    go none = refl
    go (some a) = at (ps ++ (page_of k a ∷ [])) (too_many (ps ++ (page_of k a ∷ [])))

-- ---- the limits

module _ (ps : List ℕ) (p : ℕ) where
  -- the pages with one more
  more-firsts : length (firsts (ps ++ (p ∷ []))) ≡ max (length (firsts ps)) (suc (place_in (firsts ps) p))
  more-firsts = ap length (one-more-firsts ps p) ∙ with-length (firsts ps) p

  many-segs : most_segs ≤ place_in (firsts ps) p → too_many (ps ++ (p ∷ [])) ≡ true
  unfolding too_many
  many-segs le = rw (lt-ltb most_segs (length (firsts (ps ++ (p ∷ [])))) (omega (arith, more-firsts))) refl

  many-steps : most_steps ≤ length ps → too_many (ps ++ (p ∷ [])) ≡ true
  unfolding too_many
  many-steps le =
      rw (lt-ltb most_steps (length (ps ++ (p ∷ []))) (omega (arith, length-append ps (p ∷ []))))
      (or-true (ltb most_segs (length (firsts (ps ++ (p ∷ []))))))

  not-many : length (firsts ps) ≤ most_segs → place_in (firsts ps) p < most_segs → length ps < most_steps → too_many (ps ++ (p ∷ []))
      ≡ false
  unfolding too_many
  not-many few lt room =
      rw (
        le-ltb most_segs (length (firsts (ps ++ (p ∷ [])))) (omega (arith, more-firsts)),
        le-ltb most_steps (length (ps ++ (p ∷ []))) (omega (arith, length-append ps (p ∷ []))),
      )
      refl

-- ---- the lines passed

-- after the lines up to the place `at`, which touch the pages ps
pub record Going (k : ℕ) (bytes pages marks seen : List ℕ) (segs steps at : ℕ) : Type 0 where
  pub ps : List ℕ
  pub place : at ≤ length bytes
  pub left : touched_by k bytes ≡ touched_from k ps (trace_lines (drop at bytes))
  pub few_segs : length (firsts ps) ≤ most_segs
  pub few_steps : length ps ≤ most_steps
  pub segs_are : segs ≡ length (firsts ps)
  pub steps_are : steps ≡ length ps
  pub seen_are : seen ≡ padded (segments_of ps) (idles most_steps)
  pub table : Table pages marks (firsts ps)

module _ (k : ℕ) (bytes pages marks seen : List ℕ) where
  pub going_start : pages ≡ zeros table_places → marks ≡ zeros table_places → seen ≡ idles most_steps → Going k bytes pages marks seen 0 0 0
  unfolding touched_by firsts firsts_after segments_of padded
  going_start p m t =
      record {
        ps = [];
        place = omega arith;
        left = refl;
        few_segs = omega arith;
        few_steps = omega arith;
        segs_are = refl;
        steps_are = refl;
        seen_are = t;
        table = rw (p, m) table-start;
      }

  module _ (segs steps at : ℕ) (going : Going k bytes pages marks seen segs steps at) where
    -- there is room in the table
    pub going_room : 1 ≤ empty_places marks
    going_room = omega (arith, going.table.free, going.few_segs)

    -- the lines that are left by the first of them
    first_left : (g : First) → g ≡ first_of (trace_lines (tail bytes at)) → touched_by k bytes ≡ after_first k going.ps g
    first_left g e =
        going.left
        ∙ by_first k going.ps (trace_lines (drop at bytes))
        ∙ ap (after_first k going.ps) (rw (← (tail-is bytes at)) (sym e))

    -- no line is left
    pub going_end : length bytes ≤ at → (all : ℕ) → all ≡ max 1 segs
        → Ok (record { segs = all; steps = steps; touches = seen }) ≡ imported_of (touched_by k bytes)
    unfolding imported_of trace_lines touched_from
    going_end le all is =
        let long = segments-length going.ps in
        rw (is, going.left, drop_of_length-le bytes le, going.segs_are, going.steps_are, going.seen_are, long) refl

    -- the next is malformed
    pub going_malformed : malformed ≡ first_of (trace_lines (tail bytes at))
        → imported_of (refused TraceMalformed) ≡ imported_of (touched_by k bytes)
    unfolding after_first
    going_malformed e = ap imported_of (sym (first_left malformed e))

    -- the next has the address a, and its page was looked for in the table
    module _ (a next : ℕ) (e : address a (trace_lines (drop next (tail bytes at))) ≡ first_of (trace_lines (tail bytes at)))
        (place : ℕ) (f : Found pages marks (page_of k a) place) (s : ℕ) (number : s ≡ number_at (get_or marks place 0) segs) where
      touched : List ℕ
      touched = going.ps ++ (page_of k a ∷ [])

      next_left : (t : Bool) → too_many touched ≡ t → touched_by k bytes ≡ after_page k touched (trace_lines (drop next (tail bytes at))) t
      unfolding after_first touched
      next_left t m =
          first_left (address a (trace_lines (drop next (tail bytes at)))) e
          ∙ ap (after_page k (going.ps ++ (page_of k a ∷ [])) (trace_lines (drop next (tail bytes at)))) m

      -- its segment
      pub going_segment : s ≡ place_in (firsts going.ps) (page_of k a)
      going_segment = number ∙ rw going.segs_are (found_number pages marks (firsts going.ps) going.table (page_of k a) place f)

      pub going_small : s ≤ most_segs
      going_small = omega (arith, going_segment, place-le (firsts going.ps) (page_of k a), going.few_segs)

      pub going_many_segs : s ≡ most_segs → imported_of (refused TraceTooLong) ≡ imported_of (touched_by k bytes)
      unfolding after_page touched
      going_many_segs is =
          ap imported_of (sym (next_left true (many-segs going.ps (page_of k a) (omega (arith, going_segment)))))

      pub going_many_steps : steps ≡ most_steps → imported_of (refused TraceTooLong) ≡ imported_of (touched_by k bytes)
      unfolding after_page touched
      going_many_steps is =
          ap imported_of (sym (next_left true (many-steps going.ps (page_of k a) (omega (arith, going.steps_are)))))

      module _ (below : s ≡ most_segs → ⊥) (room : steps ≡ most_steps → ⊥) (inside : next ≤ length (tail bytes at)) where
        few : s < most_segs
        few = omega (arith, going_small)

        fits : length going.ps < most_steps
        fits = omega (arith, going.steps_are, going.few_steps)

        rest : drop next (tail bytes at) ≡ drop (at + next) bytes
        rest = rw (tail-is bytes at) (drop-drop next at bytes)

        pages_left : touched_by k bytes ≡ touched_from k touched (trace_lines (drop (at + next) bytes))
        unfolding after_page touched
        pages_left =
            next_left false (not-many going.ps (page_of k a) going.few_segs (omega (arith, few, going_segment)) fits)
            ∙ ap (λ (l : List ℕ). touched_from k touched (trace_lines l)) rest

        seen_next : set seen steps s ≡ padded (segments_of touched) (idles most_steps)
        unfolding touched idles
        seen_next =
            let long : steps ≡ length (segments_of going.ps) = going.steps_are ∙ sym (segments-length going.ps) in
            let room : length (segments_of going.ps) < length (idles most_steps) =
            omega (arith, fits, segments-length going.ps, length-replicate {A = ℕ} most_steps idle) in
            rw (going.seen_are, long, one-more-segments going.ps (page_of k a), ← going_segment)
            (padded-next (segments_of going.ps) (idles most_steps) s room)

        pub going_next : (many : ℕ) → many ≡ max segs (s + 1)
            → Going k bytes (set pages place (page_of k a)) (set marks place (s + 1)) (set seen steps s) many (steps + 1) (at + next)
        unfolding touched
        going_next many is =
            let more = more-firsts going.ps (page_of k a) in
            let one = length-append going.ps (page_of k a ∷ []) in
            record {
              ps = touched;
              place = tail-place bytes at next going.place inside;
              left = pages_left;
              few_segs = omega (arith, more, few, going_segment, going.few_segs);
              few_steps = omega (arith, one, fits);
              segs_are = omega (arith, is, more, going_segment, going.segs_are);
              steps_are = omega (arith, one, going.steps_are);
              seen_are = seen_next;
              table =
                  rw (one-more-firsts going.ps (page_of k a))
                  (table-next pages marks (firsts going.ps) going.table (page_of k a) place f s going_segment);
            }
