-- What an import that is accepted gives: a sheet within the limits, one reference for each line, and segments that stand for pages
-- in the order of first appearance.
use Prim.Native.Nat.{ℕ, suc, ◌≤◌, ◌<◌}
use mathlib.Core.Path.{◌≡◌, refl, sym, ap, ◌∙◌}
use mathlib.Core.Bool.{Bool, true, false, cond, ◌&&◌, ◌||◌, false≢true}
use mathlib.Core.List.{List, [], ◌∷◌, ◌++◌, map, append-nil}
use mathlib.Core.Logic.{◌↔◌, inl}
use mathlib.Core.Option.{Option, none, some}
use native.Mathlib.Omega.{arith}
use lib.Dec.{leb, ltb}
use lib.ListN.{length, get_or, take, replicate, length-replicate, get_or-replicate, length-map, length-take}
use lib.Seq.{append_snoc, get_or-take}
use borrow.Author.Tests.{ltb-false}
use Rattle.model.specs.Sheets.{SheetValue, RowsWithin, Valid, trace_of, newest_form, most_segs, most_steps}
use Rattle.model.specs.Traces.{entry}
use Rattle.model.specs.declared.PriceRow.{PriceRow}
use Rattle.model.specs.declared.Refusal.{Refusal}
use Rattle.model.specs.declared.Refusal.TheVariants.{PageOutOfRange, TraceMalformed, TraceTooLong}
use Rattle.sheet.specs.Reading.{Outcome, accepted, rejected, read_sheet}
use Rattle.sheet.specs.Writing.{sheet_text}
use Rattle.sheet.proofs.RoundTrip.{written-then-read}
use Rattle.din.specs.Lines.{Lines, end, line, trace_lines, address_of}
use Rattle.din.specs.Pages.{Touched, touches, refused, page_of, place_in, firsts}
use Rattle.din.specs.Pages.{firsts_after, segments_of, too_many, touched_from, touched_by}
use Rattle.din.specs.Traced.{and_address, addresses, line_count, pages_in, page_at, pages_before}
use Rattle.din.specs.Pages.{least_power, largest_power, segment_count, touched_with}
use Rattle.din.specs.Import.{sheet_of_pages, sheet_of_touched, imported}
use Rattle.din.proofs.Firsts.{place-le, place-page, known, segments-length, segment-at, segment-before, firsts-absent}

-- ---- the lines of a trace that is taken

-- the lines L after lines that touch the pages ps touch the pages qs in all: the page of each address, within the limits
record Reached (k : ℕ) (ps : List ℕ) (L : Lines) (qs : List ℕ) : Type 0 where
  pages_are : qs ≡ ps ++ map (page_of k) (addresses L)
  counted : length (addresses L) ≡ line_count L
  fits : too_many qs ≡ false

is_taken : Touched → Bool
is_taken (touches ps) = true
is_taken (refused r) = false

pages_of : Touched → List ℕ
pages_of (touches ps) = ps
pages_of (refused r) = []

not_taken : {A : Type 0} (r : Refusal) (ps : List ℕ) → refused r ≡ touches ps → A
unfolding is_taken
not_taken r ps e = absurd (false≢true (ap is_taken e))

-- one line more, by its address
module _ (k : ℕ) (ps : List ℕ) (more : Lines) (qs : List ℕ)
    (step : (rs : List ℕ) → touched_from k rs more ≡ touches qs → too_many rs ≡ false → Reached k rs more qs) where
  reached-page : (rs : List ℕ) (t : Bool) → too_many rs ≡ t
      → elim t [ true ↦ refused TraceTooLong | false ↦ touched_from k rs more ] ≡ touches qs → Reached k rs more qs
  reached-page rs true m e = not_taken TraceTooLong qs e
  reached-page rs false m e = step rs e m

  reached-line : (o : Option ℕ)
      → elim o [
        | none ↦ refused TraceMalformed
        | some a ↦
            elim (too_many (ps ++ (page_of k a ∷ []))) [
              | true ↦ refused TraceTooLong
              | false ↦ touched_from k (ps ++ (page_of k a ∷ [])) more
            ]
      ] ≡ touches qs
      → (qs ≡ ps ++ map (page_of k) (and_address o (addresses more)))
      × (length (and_address o (addresses more)) ≡ suc (line_count more))
      × (too_many qs ≡ false)
  reached-line none e = not_taken TraceMalformed qs e
  reached-line (some a) e =
      let rest = reached-page (ps ++ (page_of k a ∷ [])) (too_many (ps ++ (page_of k a ∷ []))) refl e in
      (rest.pages_are ∙ append_snoc ps (page_of k a) (map (page_of k) (addresses more)), ap suc rest.counted, rest.fits)

reached : (k : ℕ) (ps : List ℕ) (L : Lines) (qs : List ℕ) → touched_from k ps L ≡ touches qs → too_many ps ≡ false → Reached k ps L qs
unfolding touched_from addresses line_count pages_of
reached k ps (end []) qs e few =
    let same : ps ≡ qs = ap pages_of e in
    record { pages_are = sym (append-nil ps ∙ same); counted = refl; fits = rw (← same) few }
reached k ps (end (b ∷ s)) qs e few = not_taken TraceMalformed qs e
reached k ps (line s more) qs e few =
    let all = reached-line k ps more qs (λ rs f few. reached k rs more qs f few) (address_of s) e in
    record { pages_are = all.0; counted = all.1; fits = all.2 }

-- ---- the sheet of a trace that is taken

abbrev pub Within : List ℕ → Type 0
Within ps = (length (firsts ps) ≤ most_segs) × (length ps ≤ most_steps)

not-many : (ps : List ℕ) → too_many ps ≡ false → Within ps
unfolding too_many
not-many ps = go (ltb most_segs (length (firsts ps))) refl (ltb most_steps (length ps)) refl
  where
    go : (t : Bool) → ltb most_segs (length (firsts ps)) ≡ t → (u : Bool) → ltb most_steps (length ps) ≡ u → (t || u) ≡ false → Within ps
    go true e u f g = absurd (false≢true (sym g))
    go false e true f g = absurd (false≢true (sym g))
    go false e false f g = (ltb-false most_segs (length (firsts ps)) e, ltb-false most_steps (length ps) f)

-- a sheet of pages within the limits is valid
pages-valid : (ps : List ℕ) (rows : List PriceRow) → Within ps → RowsWithin rows → Valid (sheet_of_pages ps rows)
pages-valid ps rows w rows_within =
    let long = length-replicate {A = ℕ} (segment_count ps) 1 in
    record {
      some_form = omega arith;
      form_within = omega arith;
      rows = rows_within;
      run =
          record {
            a_within = omega arith;
            some_segs = omega (arith, long);
            segs_within = omega (arith, long, w.0);
            some_size = λ i lt. rw (size i (omega (arith, long))) (omega arith);
            size_within = λ i lt. rw (size i (omega (arith, long))) (omega arith);
            steps_within = omega (arith, segments-length ps, w.1);
            entry_within = λ t lt. inl (segment t lt);
          };
      whole = λ first t lt. segment t lt;
      warm = record { below = λ t lt. absurd (omega arith); ascending = λ t lt. absurd (omega arith) };
      cold = λ old. refl;
      marked = λ late. absurd (omega arith);
      modifying = λ t e. absurd (false≢true e);
      unmarked = λ old. refl;
    }
  where
    -- every entry is a segment
    segment : (t : ℕ) → t < length (segments_of ps)
        → entry (trace_of (sheet_of_pages ps rows)) t < length (replicate {A = ℕ} (segment_count ps) 1)
    segment t lt =
        let long = length-replicate {A = ℕ} (segment_count ps) 1 in
        let here : t < length ps = omega (arith, segments-length ps) in
        rw (segment-at ps t (length (replicate {A = ℕ} (segment_count ps) 1)) here) (omega (arith, long, known ps t here))

    size : (i : ℕ) → i < segment_count ps → ◌≡◌ {A = ℕ} (get_or (replicate (segment_count ps) 1) i 0) 1
    size i lt = get_or-replicate {A = ℕ} (segment_count ps) i 1 0 lt

is_accepted : Outcome → Bool
is_accepted (accepted v) = true
is_accepted (rejected r) = false

value_in : SheetValue → Outcome → SheetValue
value_in d (accepted v) = v
value_in d (rejected r) = d

-- lines that are taken touch pages within the limits
module _ (k : ℕ) (trace ps : List ℕ) where
  in-range : (t : Bool) → cond t (touched_by k trace) (refused PageOutOfRange) ≡ touches ps → Reached k [] (trace_lines trace) ps
  unfolding touched_by too_many firsts firsts_after
  in-range true e = reached k [] (trace_lines trace) ps e refl
  in-range false e = not_taken PageOutOfRange ps e

  touched-reached : touched_with k trace ≡ touches ps → Reached k [] (trace_lines trace) ps
  unfolding touched_with
  touched-reached e = in-range (leb least_power k && leb k largest_power) e

  pub touched-within : touched_with k trace ≡ touches ps → Within ps
  touched-within e = not-many ps (touched-reached e).fits

-- an import that is accepted: the pages that its lines touch
record Taken (k : ℕ) (trace : List ℕ) (rows : List PriceRow) (v : SheetValue) : Type 0 where
  ps : List ℕ
  lines : touched_with k trace ≡ touches ps
  value : v ≡ sheet_of_pages ps rows

module _ (k : ℕ) (trace : List ℕ) (rows : List PriceRow) (v : SheetValue) where
  taken_from : (x : Touched) → sheet_of_touched x rows ≡ accepted v → (ps : List ℕ) × (x ≡ touches ps) × (v ≡ sheet_of_pages ps rows)
  unfolding is_accepted value_in
  taken_from (touches ps) e = (ps, refl, sym (ap (value_in v) e))
  taken_from (refused r) e = absurd (false≢true (ap is_accepted e))

  taken : imported k trace rows ≡ accepted v → Taken k trace rows v
  unfolding imported
  taken e = let t = taken_from (touched_with k trace) e in record { ps = t.0; lines = t.1; value = t.2 }

  module _ (e : imported k trace rows ≡ accepted v) where
    all_reached : Reached k [] (trace_lines trace) (taken e).ps
    all_reached = touched-reached k trace (taken e).ps (taken e).lines

    refs_are : v.entries ≡ segments_of (taken e).ps
    refs_are = ap (λ (w : SheetValue). w.entries) (taken e).value

    refs_long : length v.entries ≡ length (taken e).ps
    refs_long = ap length refs_are ∙ segments-length (taken e).ps

    -- it is the sheet of the pages of the lines
    pub imported_is : v ≡ sheet_of_pages (pages_in k trace) rows
    unfolding pages_in
    imported_is = (taken e).value ∙ ap (λ (ps : List ℕ). sheet_of_pages ps rows) all_reached.pages_are

    -- with rows of a valid sheet the sheet is valid, and its text is read again as itself
    pub imported_valid : RowsWithin rows → Valid v
    imported_valid rows_within =
        rw (taken e).value (pages-valid (taken e).ps rows (touched-within k trace (taken e).ps (taken e).lines) rows_within)

    pub imported_read : RowsWithin rows → read_sheet (sheet_text v) ≡ accepted v
    imported_read rows_within =
        let c = imported_valid rows_within in written-then-read 1 newest_form v c.some_form c.form_within c

    -- there is one reference for each line
    pub imported_refs : length v.entries ≡ line_count (trace_lines trace)
    unfolding pages_of
    imported_refs =
        refs_long ∙ ap length all_reached.pages_are ∙ length-map (addresses (trace_lines trace)) (page_of k) ∙ all_reached.counted

    module _ (t : ℕ) (lt : t < length v.entries) where
      inside : t < length (taken e).ps
      inside = omega (arith, refs_long)

      page-at : get_or (taken e).ps t 0 ≡ page_at k trace t
      unfolding page_at pages_in
      page-at = ap (λ (l : List ℕ). get_or l t 0) all_reached.pages_are

      segment_is : get_or v.entries t 0 ≡ place_in (firsts (taken e).ps) (page_at k trace t)
      segment_is =
          ap (λ (l : List ℕ). get_or l t 0) refs_are
          ∙ segment-at (taken e).ps t 0 inside ∙ ap (place_in (firsts (taken e).ps)) page-at

      page_known : place_in (firsts (taken e).ps) (page_at k trace t) < length (firsts (taken e).ps)
      page_known = rw page-at at (known (taken e).ps t inside)

      -- the segment of a line is the number of its page among those of the lines before it, by first appearance
      pub imported_number : get_or v.entries t 0 ≡ place_in (firsts (pages_before k trace t)) (page_at k trace t)
      unfolding pages_before pages_in
      imported_number =
          ap (λ (l : List ℕ). get_or l t 0) refs_are
          ∙ segment-before (taken e).ps t 0 inside
          ∙ ap (place_in (firsts (take t (taken e).ps))) page-at
          ∙ ap (λ (l : List ℕ). place_in (firsts (take t l)) (page_at k trace t)) all_reached.pages_are

      -- a page that no line before touches gets the number of pages so far
      pub imported_new : ((u : ℕ) → u < t → page_at k trace u ≡ page_at k trace t → ⊥)
          → get_or v.entries t 0 ≡ length (firsts (pages_before k trace t))
      unfolding firsts pages_before page_at
      imported_new others =
          imported_number
          ∙ omega (arith, place-le (firsts (take t P)) (get_or P t 0), firsts-absent [] (take t P) (get_or P t 0) other (omega arith))
        where
          P : List ℕ
          P = pages_in k trace

          other : (i : ℕ) → i < length (take t P) → get_or (take t P) i 0 ≡ get_or P t 0 → ⊥
          other i l f =
              let early : i < t = omega (arith, length-take t P) in
              others i early (sym (get_or-take t P i 0 early) ∙ f)

    -- the first line gets segment 0
    pub imported_first : 0 < length v.entries → get_or v.entries 0 0 ≡ 0
    unfolding firsts firsts_after place_in pages_before
    imported_first lt = imported_number 0 lt

    -- two lines get the same segment exactly where their addresses lie in one page
    pub imported_same : (t u : ℕ) → t < length v.entries → u < length v.entries
        → (get_or v.entries t 0 ≡ get_or v.entries u 0) ↔ (page_at k trace t ≡ page_at k trace u)
    imported_same t u lt lu =
        let F = firsts (taken e).ps in (
          λ same.
              sym (place-page F (page_at k trace t) (page_known t lt))
              ∙ ap (λ (i : ℕ). get_or F i 0) (sym (segment_is t lt) ∙ same ∙ segment_is u lu)
              ∙ place-page F (page_at k trace u) (page_known u lu),
          λ same. segment_is t lt ∙ ap (place_in F) same ∙ sym (segment_is u lu),
        )
