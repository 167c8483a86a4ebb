-- An import gives a text exactly where k is in its range, every line is well formed, and lines and pages are within their limits.
use Rattle.std.specs.Prelude.{Ok, Err}
use Prim.Native.Nat.{ℕ, suc, ◌≤◌}
use mathlib.Core.Path.{◌≡◌, refl, sym, ap, ◌∙◌}
use mathlib.Core.Bool.{Bool, true, false, cond, ◌&&◌, false≢true}
use mathlib.Core.List.{List, [], ◌∷◌, ◌++◌, map, append-nil}
use mathlib.Core.Logic.{◌↔◌}
use mathlib.Core.Option.{Option, none, some}
use native.Mathlib.Omega.{arith}
use borrow.Author.Tests.{leb-true, le-leb, le-ltb}
use lib.Dec.{leb}
use lib.ListN.{length, length-append, length-map, length-replicate}
use lib.Seq.{append_snoc}
use Rattle.model.specs.Sheets.{SheetValue, RowsWithin, newest_form, most_segs, most_steps}
use Rattle.model.specs.declared.PriceRow.{PriceRow}
use Rattle.model.specs.declared.Refusal.{Refusal}
use Rattle.model.specs.declared.Refusal.TheVariants.{PageOutOfRange, TraceMalformed, TraceTooLong}
use Rattle.sheet.specs.Accepting.{on_sheet}
use Rattle.sheet.specs.Reading.{accepted, read_sheet}
use Rattle.sheet.specs.Writing.{sheet_text}
use Rattle.sheet.proofs.Accepted.{accepted-valid}
use Rattle.din.specs.Import.{sheet_of_pages, sheet_of_touched, imported}
use Rattle.din.specs.Lines.{Lines, end, line, trace_lines, address_of}
use Rattle.din.specs.Pages.{Touched, touches, refused, page_of, with_page, firsts_after, firsts, too_many, touched_from, touched_by}
use Rattle.din.specs.Pages.{least_power, largest_power, segment_count, touched_with}
use Rattle.din.specs.Traced.{and_address, addresses, line_count, pages_in}
use Rattle.din.proofs.Firsts.{with-length, firsts-append}
use Rattle.din.proofs.Results.{imported_is, imported_valid, imported_refs}
use Rattle.analyser.specs.Sheets.{imported_result, import_result}
use Rattle.analyser.specs.ImportedFromBytes.{well_formed, Importable, GivenExactly}
use Rattle.analyser.proofs.Given.{given-accepted}

-- ---- lines that are taken are well formed

not_taken : {A : Type 0} (r : Refusal) (ps : List ℕ) → refused r ≡ touches ps → A
not_taken r ps e = absurd (let z : ◌≡◌ {A = ℕ} 0 1 = cc in omega arith)

module _ (k : ℕ) (qs : List ℕ) where
  -- one line, by its address
  module _ (ps : List ℕ) (more : Lines) (step : (rs : List ℕ) → touched_from k rs more ≡ touches qs → well_formed more ≡ true) where
    formed-page : (rs : List ℕ) (t : Bool) → elim t [ true ↦ refused TraceTooLong | false ↦ touched_from k rs more ] ≡ touches qs
        → well_formed more ≡ true
    formed-page rs true e = not_taken TraceTooLong qs e
    formed-page rs false e = step rs e

    formed-line : (o : Option ℕ)
        → elim o [
          | none ↦ refused TraceMalformed
          | some a ↦
              elim (too_many (ps ++ (page_of k a ∷ []))) [
                | true ↦ refused TraceTooLong
                | false ↦ touched_from k (ps ++ (page_of k a ∷ [])) more
              ]
        ] ≡ touches qs
        → elim o [ none ↦ false | some a ↦ well_formed more ] ≡ true
    formed-line none e = not_taken TraceMalformed qs e
    formed-line (some a) e = formed-page (ps ++ (page_of k a ∷ [])) (too_many (ps ++ (page_of k a ∷ []))) e

  taken-formed : (ps : List ℕ) (L : Lines) → touched_from k ps L ≡ touches qs → well_formed L ≡ true
  unfolding touched_from well_formed
  taken-formed ps (end []) e = refl
  taken-formed ps (end (b ∷ s)) e = not_taken TraceMalformed qs e
  taken-formed ps (line s more) e = formed-line ps more (λ rs f. taken-formed rs more f) (address_of s) e

-- ---- well formed lines within the limits are taken

-- pages that follow take none of the different pages away
firsts-rise : (F ps : List ℕ) → length F ≤ length (firsts_after F ps)
unfolding firsts_after
firsts-rise F [] = omega arith
firsts-rise F (p ∷ ps) = omega (arith, with-length F p, firsts-rise (with_page F p) ps)

fewer-firsts : (ps qs : List ℕ) → length (firsts ps) ≤ length (firsts (ps ++ qs))
unfolding firsts
fewer-firsts ps qs = rw (firsts-append [] ps qs) (firsts-rise (firsts_after [] ps) qs)

-- so pages are not too many where with those that follow they are within the limits
few : (ps : List ℕ) → length (firsts ps) ≤ most_segs → length ps ≤ most_steps → too_many ps ≡ false
unfolding too_many
few ps pages lines = rw (le-ltb most_segs (length (firsts ps)) pages, le-ltb most_steps (length ps) lines)

few-before : (ps qs : List ℕ) → length (firsts (ps ++ qs)) ≤ most_segs → length (ps ++ qs) ≤ most_steps → too_many ps ≡ false
few-before ps qs pages lines =
    few ps (omega (arith, fewer-firsts ps qs)) (omega (arith, length-append ps qs))

module _ (k : ℕ) where
  -- the pages ps and those of the addresses found
  abbrev all_of : List ℕ → List ℕ → List ℕ
  all_of ps found = ps ++ map (page_of k) found

  formed-taken : (ps : List ℕ) (L : Lines) → well_formed L ≡ true → length (firsts (all_of ps (addresses L))) ≤ most_segs
      → length (all_of ps (addresses L)) ≤ most_steps → touched_from k ps L ≡ touches (all_of ps (addresses L))
  unfolding touched_from well_formed addresses
  formed-taken ps (end []) e pages lines = ap touches (sym (append-nil ps))
  formed-taken ps (end (b ∷ s)) e pages lines = absurd (false≢true e)
  formed-taken ps (line s more) e pages lines = go (address_of s) e pages lines (λ rs. formed-taken rs more)
    where
      go : (o : Option ℕ) → elim o [ none ↦ false | some a ↦ well_formed more ] ≡ true
          → length (firsts (all_of ps (and_address o (addresses more)))) ≤ most_segs
          → length (all_of ps (and_address o (addresses more))) ≤ most_steps
          → ((rs : List ℕ) → well_formed more ≡ true → length (firsts (all_of rs (addresses more))) ≤ most_segs
          → length (all_of rs (addresses more)) ≤ most_steps → touched_from k rs more ≡ touches (all_of rs (addresses more)))
          → elim o [
            | none ↦ refused TraceMalformed
            | some a ↦
                elim (too_many (ps ++ (page_of k a ∷ []))) [
                  | true ↦ refused TraceTooLong
                  | false ↦ touched_from k (ps ++ (page_of k a ∷ [])) more
                ]
          ] ≡ touches (all_of ps (and_address o (addresses more)))
      go none f pages lines rest = absurd (false≢true f)
      go (some a) f pages lines rest =
          let rs = ps ++ (page_of k a ∷ []) in
          let same : all_of rs (addresses more) ≡ all_of ps (a ∷ addresses more) =
          append_snoc ps (page_of k a) (map (page_of k) (addresses more)) in
          let pages' : length (firsts (all_of rs (addresses more))) ≤ most_segs = rw same pages in
          let lines' : length (all_of rs (addresses more)) ≤ most_steps = rw same lines in
          rw (few-before rs (map (page_of k) (addresses more)) pages' lines') (rest rs f pages' lines' ∙ ap touches same)

-- well formed lines have an address each
formed-count : (L : Lines) → well_formed L ≡ true → length (addresses L) ≡ line_count L
unfolding well_formed addresses line_count
formed-count (end []) e = refl
formed-count (end (b ∷ s)) e = absurd (false≢true e)
formed-count (line s more) e = go (address_of s) e (formed-count more)
  where
    go : (o : Option ℕ) → elim o [ none ↦ false | some a ↦ well_formed more ] ≡ true
        → (well_formed more ≡ true → length (addresses more) ≡ line_count more)
        → length (and_address o (addresses more)) ≡ suc (line_count more)
    go none f rest = absurd (false≢true f)
    go (some a) f rest = ap suc (rest f)

-- ---- the call

module _ (k : ℕ) (trace : List ℕ) where
  -- what is taken at all: k is in its range, and the lines are taken
  in-range : (b c : Bool) (ps : List ℕ) → cond (b && c) (touched_by k trace) (refused PageOutOfRange) ≡ touches ps
      → (b ≡ true) × (c ≡ true) × (touched_by k trace ≡ touches ps)
  in-range true true ps e = (refl, refl, e)
  in-range true false ps e = not_taken PageOutOfRange ps e
  in-range false c ps e = not_taken PageOutOfRange ps e

  module _ (rows : List PriceRow) where
    -- the pages of a trace that is accepted
    pages-from : (x : Touched) (v : SheetValue) → sheet_of_touched x rows ≡ accepted v → (ps : List ℕ) × (x ≡ touches ps)
    pages-from (touches ps) v e = (ps, refl)
    pages-from (refused r) v e = absurd (let z : ◌≡◌ {A = ℕ} 0 1 = cc in omega arith)

    accepted-importable : RowsWithin rows → (v : SheetValue) → imported k trace rows ≡ accepted v → Importable k trace
    unfolding imported touched_with touched_by
    accepted-importable rows_within v e =
        let ps = pages-from (touched_with k trace) v e in
        let r = in-range (leb least_power k) (leb k largest_power) ps.0 ps.1 in
        let valid = imported_valid k trace rows v e rows_within in
        let segs : length v.head.sizes ≡ segment_count (pages_in k trace) =
        ap (λ (u : SheetValue). length u.head.sizes) (imported_is k trace rows v e)
        ∙ length-replicate {A = ℕ} (segment_count (pages_in k trace)) 1 in
        record {
          k_from = leb-true least_power k r.0;
          k_to = leb-true k largest_power r.1;
          formed = taken-formed k ps.0 [] (trace_lines trace) r.2;
          lines_within = omega (arith, imported_refs k trace rows v e, valid.run.steps_within);
          pages_within = omega (arith, segs, valid.run.segs_within);
        }

    importable-accepted : Importable k trace → imported k trace rows ≡ accepted (sheet_of_pages (pages_in k trace) rows)
    unfolding imported touched_with touched_by pages_in
    importable-accepted i =
        let long : length (map (page_of k) (addresses (trace_lines trace))) ≡ line_count (trace_lines trace) =
        length-map (addresses (trace_lines trace)) (page_of k) ∙ formed-count (trace_lines trace) i.formed in
        rw (le-leb least_power k i.k_from, le-leb k largest_power i.k_to)
        (ap (λ x. sheet_of_touched x rows)
        (formed-taken k [] (trace_lines trace) i.formed i.pages_within (omega (arith, long, i.lines_within))))

module _ (trace : List ℕ) (k : ℕ) (s : List ℕ) (v : SheetValue) (reads : read_sheet s ≡ accepted v) where
  result-is : import_result trace k s ≡ imported_result trace k v.head.rows
  unfolding import_result
  result-is = rw reads

  given-where : ((text : List ℕ) × (import_result trace k s ≡ Ok text)) ↔ Importable k trace
  given-where = (
    λ given.
        let from = given-accepted (imported k trace v.head.rows) given.0 (sym result-is ∙ given.1) in
        accepted-importable k trace v.head.rows (accepted-valid 1 newest_form (omega arith) s v reads).rows from.0 from.1,
    λ i. (
      sheet_text (sheet_of_pages (pages_in k trace) v.head.rows),
      result-is ∙ ap (λ o. on_sheet o Err (λ u. Ok (sheet_text u))) (importable-accepted k trace v.head.rows i),
    ),
  )

pub given-exactly : GivenExactly
given-exactly = given-where
