-- The lines of a sheet one after another: which values they are read as, and that each such value is read from its own lines.
use Prim.Native.Nat.{ℕ, suc, ◌-◌, ◌≤◌, max}
use mathlib.Core.Path.{◌≡◌, refl, sym, ap, subst, ◌∙◌}
use mathlib.Core.Bool.{Bool, true, false, cond, false≢true}
use mathlib.Core.List.{List, [], ◌∷◌, ◌++◌, append_assoc, map}
use mathlib.Core.Option.{Option, none}
use native.Mathlib.Nat.{sub-zero}
use native.Mathlib.Omega.{arith}
use borrow.Author.Tests.{le-leb, leb-true, leb-false}
use lib.Dec.{eqb, leb}
use lib.ListN.{length, take}
use Rattle.decimal.specs.Decimal.{written}
use Rattle.text.specs.Keys.{line_feed, form_key, kind_key, a_key, segs_key, size_key, rows_key, row_key, warm_key, hold_key, steps_key}
use Rattle.text.specs.Keys.{refs_key}
use Rattle.text.specs.Keys.{ref_key, kind_word}
use Rattle.text.specs.Texts.{line_text, number_text, lines_text}
use Rattle.text.proofs.Runs.{Each, lines-map}
use Rattle.model.specs.Sheets.{HeadValue, SheetValue, idle, marks_of, newest_form, largest_a, most_segs, largest_size, most_rows}
use Rattle.model.specs.Sheets.{most_steps}
use Rattle.model.specs.declared.Kind.{Kind}
use Rattle.model.specs.declared.Kind.TheVariants.{Time, Space}
use Rattle.model.specs.declared.Refusal.TheVariants.{LineMalformed, OutOfRange}
use Rattle.sheet.specs.Lines.{read, refused, and_then, split_at, same_bytes, after_key, value_line, number_line}
use Rattle.sheet.specs.Order.{kind_for, number_part, numbers_part, rows_part, holds_part, sizes_part, prices_part, warm_part, warm_for}
use Rattle.sheet.specs.Order.{tables_part, head_part}
use Rattle.sheet.specs.Order.{refs_part, plain_part, touches_part, steps_part, entries_part}
use Rattle.sheet.specs.Order.{run_part, body_part, form_lines, sheet_part, lines_of}
use Rattle.sheet.specs.Parts.{Line, text_of}
use Rattle.sheet.specs.Reading.{sheet_lines, form_in, named_form}
use Rattle.sheet.specs.Touches.{Touch, Entries, touch_word, touches_text, touch_lines, touches_from, touches_of, entries_of, entry_lines}
use Rattle.sheet.specs.Values.{kind_line, row_line, row_word, row_text}
use Rattle.sheet.specs.Warm.{hold_line}
use Rattle.sheet.specs.Writing.{sheet_text}
use Rattle.sheet.proofs.Parsing.{by-test, passed, then-read, Reads, lacks}
use Rattle.sheet.proofs.PartsKept.{Kept, reads_as, line_kept, lines-kept, whole-kept, then-kept}
use Rattle.sheet.proofs.Runs.{lines-reads, number-lines, row-lines, hold-lines}
use Rattle.sheet.proofs.Touches.{EntryFits, MarksFit, touches_reads, touches-fit, touches-again, entries-again}
use Rattle.sheet.proofs.Touches.{placed_length, entries_fit, marks-letter, marks_fit}
use Rattle.sheet.proofs.Words.{number-reads, kind-reads, row_reads, hold-reads, RowFits, HoldFits}

-- a number lo to hi, whatever stands before it
abbrev pub From : ℕ → ℕ → Option ℕ → ℕ → Type 0
From lo hi prev n = (lo ≤ n) × (n ≤ hi)

-- what the entries of a sheet are asked for: in form 1 segments, from form 2 on segments or idle
abbrev pub EntriesFit : Bool → ℕ → List ℕ → Type 0
EntriesFit true segs xs = (length xs ≤ most_steps) × Each (EntryFits segs) none xs
EntriesFit false segs xs = (length xs ≤ most_steps) × Each (From 0 (segs - 1)) none xs

-- what the warm segments of a sheet are asked for: there are none before form 3
abbrev pub WarmFits : Bool → ℕ → List ℕ → Type 0
WarmFits true segs xs = (length xs ≤ segs) × Each (HoldFits segs) none xs
WarmFits false segs xs = xs ≡ []

-- what the lines of a sheet ask of its value, line by line, for a call that takes the forms lo to hi
pub record Readable (lo hi : ℕ) (v : SheetValue) : Type 0 where
  pub some_form : 1 ≤ v.form
  pub form_taken : lo ≤ v.form
  pub form_known : 2 ≤ v.form → v.form ≤ hi
  pub a_fits : (0 ≤ v.head.a) × (v.head.a ≤ largest_a)
  pub segs_fit : (1 ≤ length v.head.sizes) × (length v.head.sizes ≤ most_segs)
  pub sizes_fit : Each (From 1 largest_size) none v.head.sizes
  pub rows_fit : (1 ≤ length v.head.rows) × (length v.head.rows ≤ most_rows)
  pub prices_fit : Each RowFits none v.head.rows
  pub warm_fits : WarmFits (leb 3 v.form) (length v.head.sizes) v.head.warm
  pub entries_fit : EntriesFit (leb 2 v.form) (length v.head.sizes) v.entries
  pub marks_fit : MarksFit (leb 4 v.form) (length v.head.sizes) v.entries v.marks

-- ---- the parts

-- one line with a number
number-kept : (key : List ℕ) (lo hi : ℕ) → lacks line_feed key ≡ true → Kept (number_part key lo hi) (λ n. (lo ≤ n) × (n ≤ hi))
number-kept key lo hi k = line_kept key written _ _ (number-reads key lo hi k)

-- n such lines
numbers-kept : (key : List ℕ) (lo hi n : ℕ) → lacks line_feed key ≡ true
    → Kept (numbers_part key lo hi n) (λ xs. (length xs ≡ n) × Each (From lo hi) none xs)
numbers-kept key lo hi n k =
    let r = lines-reads (λ _. number_line key lo hi) (number_text key) (From lo hi) (λ _. number-reads key lo hi k) n none in
    lines-kept key written _ _
    (record {
      forth = λ xs rest h. rw (number-lines key lo hi n none) (r.forth xs rest h);
      back = λ s xs rest e. r.back s xs rest (sym (number-lines key lo hi n none s) ∙ e);
    })

-- n rows
rows-kept : (n : ℕ) → Kept (rows_part n) (λ qs. (length qs ≡ n) × Each RowFits none qs)
rows-kept n =
    let r = lines-reads row_line row_text RowFits row_reads n none in
    lines-kept row_key row_word _ _
    (record {
      forth = λ qs rest h. rw (row-lines n none) (r.forth qs rest h);
      back = λ s qs rest e. r.back s qs rest (sym (row-lines n none s) ∙ e);
    })

-- n warm segments
holds_kept : (segs n : ℕ) → Kept (holds_part segs n) (λ xs. (length xs ≡ n) × Each (HoldFits segs) none xs)
holds_kept segs n =
    let r = lines-reads (hold_line segs) (number_text hold_key) (HoldFits segs) (hold-reads segs) n none in
    lines-kept hold_key written _ _
    (record {
      forth = λ xs rest h. rw (hold-lines segs n none) (r.forth xs rest h);
      back = λ s xs rest e. r.back s xs rest (sym (hold-lines segs n none s) ∙ e);
    })

-- a list with its count
abbrev Counted : {A : Type 0} → ℕ → ℕ → (Option A → A → Type 0) → List A → Type 0
Counted lo hi F xs = ((lo ≤ length xs) × (length xs ≤ hi)) × ((length xs ≡ length xs) × Each F none xs)

sizes-kept : Kept sizes_part (Counted 1 most_segs (From 1 largest_size))
unfolding sizes_part
sizes-kept = then-kept (number-kept segs_key 1 most_segs refl) (λ n _. numbers-kept size_key 1 largest_size n refl) (λ n xs f g. g.0)

prices-kept : Kept prices_part (Counted 1 most_rows RowFits)
unfolding prices_part
prices-kept = then-kept (number-kept rows_key 1 most_rows refl) (λ n _. rows-kept n) (λ n qs f g. g.0)

warm-kept : (segs : ℕ) → Kept (warm_part segs) (Counted 0 segs (HoldFits segs))
unfolding warm_part
warm-kept segs = then-kept (number-kept warm_key 0 segs refl) (λ n _. holds_kept segs n) (λ n xs f g. g.0)

-- the warm segments of a form
warm_for-kept : (later : Bool) (segs : ℕ) → Kept (warm_for later segs) (WarmFits later segs)
warm_for-kept true segs = record {
  both = reads_as (warm-kept segs).both (λ xs f. (f.0.1, f.1.1)) (λ xs f. ((omega arith, f.0), (refl, f.1)));
}
warm_for-kept false segs = whole-kept []

refs-kept : (segs : ℕ) → Kept (refs_part segs) (Counted 0 most_steps (From 0 (segs - 1)))
unfolding refs_part
refs-kept segs = then-kept (number-kept refs_key 0 most_steps refl) (λ n _. numbers-kept ref_key 0 (segs - 1) n refl) (λ n xs f g. g.0)

-- the entries of form 1
plain-kept : (segs : ℕ) → Kept (plain_part segs)
    (λ e. Counted 0 most_steps (From 0 (segs - 1)) e.entries × (e ≡ record { entries = e.entries; marks = [] }))
unfolding plain_part
plain-kept segs =
    then-kept (refs-kept segs) (λ refs _. whole-kept (record { entries = refs; marks = [] }))
    (λ refs e f g. ap (λ (w : Entries). w.entries) g)

-- what n lines of touches ask of entries and marks
abbrev TouchesFit : Bool → ℕ → ℕ → ℕ → Entries → Type 0
TouchesFit letters segs steps n e =
    (length e.entries ≡ steps)
    × ((length (touches_of e) ≡ n) × (Each (EntryFits segs) none e.entries × MarksFit letters segs e.entries e.marks))

-- n lines of touches, where an idle entry is no segment
touches-kept : (letters : Bool) (segs steps n : ℕ) → segs ≤ idle
    → Kept (touches_part letters segs steps n) (TouchesFit letters segs steps n)
touches-kept letters segs steps n h = record { both = record { forth = forth; back = back } }
  where
    lines : Entries → List Line
    lines e = map (λ x. (ref_key, touch_word x)) (touches_of e)

    text : (e : Entries) → text_of (lines e) ≡ touches_text (touches_of e)
    text e = lines-map (λ (l : Line). line_text l.0 l.1) (λ x. (ref_key, touch_word x)) (touches_of e)

    forth : (e : Entries) (rest : List ℕ) → TouchesFit letters segs steps n e
        → entry_lines letters segs steps n (text_of (lines e) ++ rest) ≡ read e rest
    forth e rest (l, (k, (c, m))) =
        let w = marks-letter letters segs e.entries e.marks m in
        let t = touches-fit letters segs steps (marks_of e.marks) w e.entries none none 0 (omega arith) (omega (arith, l)) c in
        rw (text e, (touches_reads letters segs steps n).forth (touches_of e) rest (k, t))
        (ap (λ x. read x rest) (ap (λ i. entries_of letters i (touches_of e)) (sym l) ∙ entries-again letters segs h e m))

    back : (s : List ℕ) (e : Entries) (rest : List ℕ) → entry_lines letters segs steps n s ≡ read e rest
        → (s ≡ text_of (lines e) ++ rest) × TouchesFit letters segs steps n e
    back s e rest p =
        then-read (touch_lines letters segs steps n 0 s) _ e rest p λ ts mid e₁ e₂.
        let (t, (k, c)) = (touches_reads letters segs steps n).back s ts mid e₁ in
        let q : entries_of letters steps ts ≡ e = cc in
        let m : mid ≡ rest = cc in
        let o : touches_of e ≡ ts = ap touches_of (sym q) ∙ touches-again letters segs steps h ts c in
        let l = placed_length idle (λ x. x.segment) letters segs steps ts none (omega arith) c in
        rw (text e, o) (
          t ∙ rw m,
          (
            ap (λ (x : Entries). length x.entries) (sym q) ∙ (l ∙ sub-zero steps),
            (
              k,
              subst (λ x. Each (EntryFits segs) none x.entries × MarksFit letters segs x.entries x.marks) q
                  (entries_fit letters segs steps ts none none c, marks_fit letters segs steps ts c),
            ),
          ),
        )

-- steps=, refs= and the touches
steps-kept : (letters : Bool) (segs : ℕ) → segs ≤ idle → Kept (steps_part letters segs)
    (λ e. ((0 ≤ length e.entries) × (length e.entries ≤ most_steps))
    × (((0 ≤ length (touches_of e)) × (length (touches_of e) ≤ length e.entries))
    × TouchesFit letters segs (length e.entries) (length (touches_of e)) e))
unfolding steps_part
steps-kept letters segs h =
    then-kept (number-kept steps_key 0 most_steps refl)
    (λ steps _. then-kept (number-kept refs_key 0 steps refl)
    (λ n _. touches-kept letters segs steps n h)
    (λ n e f g. g.1.0))
    (λ steps e f g. g.1.0)

-- touches are no more than entries
touches-few : (m : ℕ → Bool) (xs : List ℕ) (before : ℕ) → length (touches_from m before xs) ≤ length xs
unfolding touches_from
touches-few m [] before = omega arith
touches-few m (x ∷ xs) before = go (eqb x idle) (touches-few m xs (suc before))
  where
    later : List Touch
    later = touches_from m (suc before) xs

    go : (b : Bool) → length later ≤ length xs
        → length (cond b later (record { segment = x; step = suc before; modifies = m before } ∷ later)) ≤ suc (length xs)
    go true l = omega (arith, l)
    go false l = omega (arith, l)

-- the entries of a form; one with the letter is no form 1
entries-kept : (later letters : Bool) (segs : ℕ) → (letters ≡ true → later ≡ true) → segs ≤ idle → Kept (entries_part later letters segs)
    (λ e. EntriesFit later segs e.entries × MarksFit letters segs e.entries e.marks)
entries-kept true letters segs w h = record {
  both = reads_as (steps-kept letters segs h).both (λ e f. ((f.0.1, f.1.1.1.1.0), f.1.1.1.1.1))
      (λ e f. ((omega arith, f.0.0), ((omega arith, touches-few (marks_of e.marks) e.entries 0), (refl, (refl, (f.0.1, f.1))))));
}
entries-kept false true segs w h = absurd (false≢true (w refl))
entries-kept false false segs w h = record {
  both = reads_as (plain-kept segs).both (λ e f. ((f.0.0.1, f.0.1.1), ap (λ (w : Entries). w.marks) f.1))
      (λ e f. (((omega arith, f.0.0), (refl, f.0.1)), rw f.1));
}

-- kind= of a sheet whose form is taken
kind-kept : (taken : Bool) → Kept (kind_for taken) (λ k. taken ≡ true)
kind-kept taken = line_kept kind_key kind_word _ _ (record { forth = forth; back = back })
  where
    forth : (k : Kind) (rest : List ℕ) → taken ≡ true
        → and_then (kind_line (line_text kind_key (kind_word k) ++ rest)) (λ kind end. cond taken (read kind end) (refused OutOfRange))
        ≡ read k rest
    forth k rest e = rw (kind-reads.forth k rest tt, e)

    back : (s : List ℕ) (k : Kind) (rest : List ℕ)
        → and_then (kind_line s) (λ kind end. cond taken (read kind end) (refused OutOfRange)) ≡ read k rest
        → (s ≡ line_text kind_key (kind_word k) ++ rest) × (taken ≡ true)
    back s k rest e =
        then-read (kind_line s) _ k rest e λ kind mid e₁ e₂.
        let (h, f) = passed taken _ _ k rest e₂ in
        let q : kind ≡ k = cc in
        let m : mid ≡ rest = cc in
        (rw (← q, ← m) (kind-reads.back s kind mid e₁).0, h)

-- the sizes, the rows and the warm segments of a head, one after another
abbrev TablesFit : Bool → Kind → ℕ → HeadValue → Type 0
TablesFit later kind a h =
    Counted 1 most_segs (From 1 largest_size) h.sizes × (Counted 1 most_rows RowFits h.rows
    × (WarmFits later (length h.sizes) h.warm
    × (h ≡ record { kind = kind; a = a; sizes = h.sizes; rows = h.rows; warm = h.warm })))

tables-kept : (later : Bool) (kind : Kind) (a : ℕ) → Kept (tables_part later kind a) (TablesFit later kind a)
unfolding tables_part
tables-kept later kind a =
    then-kept sizes-kept
    (λ sizes _. then-kept prices-kept
    (λ rows _. then-kept (warm_for-kept later (length sizes))
    (λ warm _. whole-kept (record { kind = kind; a = a; sizes = sizes; rows = rows; warm = warm }))
    (λ warm h f g. ap (λ (w : HeadValue). w.warm) g))
    (λ rows h f g. ap (λ (w : HeadValue). w.rows) g.1))
    (λ sizes h f g. ap (λ (w : HeadValue). w.sizes) g.1.1)

-- they are read with a segment
pub tables-segs : (later : Bool) (kind : Kind) (a : ℕ) (s : List ℕ) (h : HeadValue) (rest : List ℕ)
    → (tables_part later kind a).reads s ≡ read h rest → (1 ≤ length h.sizes) × (length h.sizes ≤ most_segs)
tables-segs later kind a s h rest e = ((tables-kept later kind a).both.back s h rest e).1.0.0

-- the head
abbrev HeadFits : Bool → Bool → HeadValue → Type 0
HeadFits taken later h = (taken ≡ true) × (((0 ≤ h.a) × (h.a ≤ largest_a)) × TablesFit later h.kind h.a h)

head-kept : (taken later : Bool) → Kept (head_part taken later) (HeadFits taken later)
unfolding head_part
head-kept taken later =
    then-kept (kind-kept taken)
    (λ kind _. then-kept (number-kept a_key 0 largest_a refl)
    (λ a _. tables-kept later kind a)
    (λ a h f g. ap (λ (w : HeadValue). w.a) g.1.1.1))
    (λ kind h f g. ap (λ (w : HeadValue). w.kind) g.1.1.1.1)

-- a head that is read has a segment
pub head-segs : (taken later : Bool) (s : List ℕ) (h : HeadValue) (rest : List ℕ) → (head_part taken later).reads s ≡ read h rest
    → (1 ≤ length h.sizes) × (length h.sizes ≤ most_segs)
head-segs taken later s h rest e = ((head-kept taken later).both.back s h rest e).1.1.1.0.0

-- the head, and then the entries
abbrev BodyFits : ℕ → ℕ → SheetValue → Type 0
BodyFits lo form v =
    HeadFits (leb lo form) (leb 3 form) v.head
    × ((EntriesFit (leb 2 form) (length v.head.sizes) v.entries
    × MarksFit (leb 4 form) (length v.head.sizes) v.entries v.marks)
    × (v ≡ record { form = form; head = v.head; entries = v.entries; marks = v.marks }))

body_kept : (lo form : ℕ) → Kept (body_part lo form) (BodyFits lo form)
unfolding body_part run_part
body_kept lo form =
    then-kept (head-kept (leb lo form) (leb 3 form))
    (λ head f. then-kept (entries-kept (leb 2 form) (leb 4 form) (length head.sizes) with-letters (omega (arith, f.1.1.0.0.1)))
    (λ e _. whole-kept (record { form = form; head = head; entries = e.entries; marks = e.marks }))
    (λ e v f g. ap (λ (w : SheetValue). record { entries = w.entries; marks = w.marks }) g))
    (λ head v f g. ap (λ (w : SheetValue). w.head) g.1)
  where
    with-letters : leb 4 form ≡ true → leb 2 form ≡ true
    with-letters e = le-leb 2 form (omega (arith, leb-true 4 form e))

-- ---- the sheet

-- the lines do not depend on the forms that a call takes
pub lines_same : (lo hi : ℕ) (v : SheetValue) → (sheet_part lo hi).lines v ≡ lines_of v
unfolding sheet_part body_part head_part
lines_same lo hi v = refl

module _ (lo hi : ℕ) where
  -- the fits of the parts are those of the record
  to : (v : SheetValue) → 1 ≤ v.form → (2 ≤ v.form → v.form ≤ hi) → BodyFits lo v.form v → Readable lo hi v
  to v some known (h, ((r, m), e)) =
      let (t, (a, (s, (q, (w, i))))) = h in
      record {
        some_form = some;
        form_taken = leb-true lo v.form t;
        form_known = known;
        a_fits = a;
        segs_fit = s.0;
        sizes_fit = s.1.1;
        rows_fit = q.0;
        prices_fit = q.1.1;
        warm_fits = w;
        entries_fit = r;
        marks_fit = m;
      }

  from : (v : SheetValue) → Readable lo hi v → BodyFits lo v.form v
  from v c = (
    (
      le-leb lo v.form c.form_taken,
      (c.a_fits, ((c.segs_fit, (refl, c.sizes_fit)), ((c.rows_fit, (refl, c.prices_fit)), (c.warm_fits, refl)))),
    ),
    ((c.entries_fit, c.marks_fit), refl),
  )

  -- a body begins with its key and not with that of a form
  body-first : (form : ℕ) (v : SheetValue) (rest : List ℕ) → same_bytes (take 5 (text_of ((body_part lo form).lines v) ++ rest)) form_key
      ≡ false
  unfolding body_part head_part lines_text same_bytes
  body-first form v rest = refl

  -- the text with a form line, and without
  later-text : (v : SheetValue) (rest : List ℕ) → leb 2 v.form ≡ true
      → text_of (form_lines v.form ++ (body_part lo v.form).lines v) ++ rest
      ≡ number_text form_key v.form ++ (text_of ((body_part lo v.form).lines v) ++ rest)
  unfolding lines_text
  later-text v rest e = rw e (append_assoc (number_text form_key v.form) (text_of ((body_part lo v.form).lines v)) rest)

  first-text : (v : SheetValue) → leb 2 v.form ≡ false
      → text_of (form_lines v.form ++ (body_part lo v.form).lines v) ≡ text_of ((body_part lo v.form).lines v)
  first-text v e = rw e

  -- reading with a form line, and without
  later-reads : (form : ℕ) (rest : List ℕ) (v : SheetValue) (end : List ℕ) → 2 ≤ form → lo ≤ form → form ≤ hi
      → (body_part lo form).reads rest ≡ read v end → (sheet_part lo hi).reads (number_text form_key form ++ rest) ≡ read v end
  unfolding sheet_part same_bytes
  later-reads form rest v end two l h e =
      rw ((number-reads form_key (max 2 lo) hi refl).forth form rest (omega arith, h)) e

  first_reads : (s : List ℕ) → same_bytes (take 5 s) form_key ≡ false → (sheet_part lo hi).reads s ≡ (body_part lo 1).reads s
  unfolding sheet_part
  first_reads s e = rw e

  forth : (v : SheetValue) (rest : List ℕ) → Readable lo hi v → (sheet_part lo hi).reads (text_of ((sheet_part lo hi).lines v) ++ rest)
      ≡ read v rest
  unfolding sheet_part
  forth v rest c = go (leb 2 v.form) refl
    where
      body : (body_part lo v.form).reads (text_of ((body_part lo v.form).lines v) ++ rest) ≡ read v rest
      body = (body_kept lo v.form).both.forth v rest (from v c)

      go : (b : Bool) → leb 2 v.form ≡ b → (sheet_part lo hi).reads (text_of ((sheet_part lo hi).lines v) ++ rest) ≡ read v rest
      go true e =
          let two = leb-true 2 v.form e in
          ap (sheet_part lo hi).reads (later-text v rest e)
          ∙ later-reads v.form (text_of ((body_part lo v.form).lines v) ++ rest) v rest two c.form_taken (c.form_known two) body
      go false e =
          let one : v.form ≡ 1 = omega (arith, c.some_form, leb-false 2 v.form e) in
          ap (λ t. (sheet_part lo hi).reads (t ++ rest)) (first-text v e)
          ∙ (first_reads (text_of ((body_part lo v.form).lines v) ++ rest) (body-first v.form v rest)
          ∙ (ap (λ f. (body_part lo f).reads (text_of ((body_part lo v.form).lines v) ++ rest)) (sym one) ∙ body))

  back : (s : List ℕ) (v : SheetValue) (rest : List ℕ) → (sheet_part lo hi).reads s ≡ read v rest
      → (s ≡ text_of ((sheet_part lo hi).lines v) ++ rest) × Readable lo hi v
  unfolding sheet_part
  back s v rest e =
      by-test (same_bytes (take 5 s) form_key) _ _ (read v rest) e
      (λ _ f. then-read (number_line form_key (max 2 lo) hi s) _ v rest f λ form mid e₁ e₂.
      let (t, (l, u)) = (number-reads form_key (max 2 lo) hi refl).back s form mid e₁ in
      let (w, b) = (body_kept lo form).both.back mid v rest e₂ in
      let q : form ≡ v.form = sym (ap (λ (x : SheetValue). x.form) b.1.1) in
      let two : 2 ≤ v.form = omega (arith, q) in (
        t ∙ (ap (λ m. number_text form_key form ++ m) w
            ∙ (ap (λ (k : ℕ). number_text form_key k ++ (text_of ((body_part lo k).lines v) ++ rest)) q
            ∙ sym (later-text v rest (le-leb 2 v.form two)))),
        to v (omega arith) (λ _. omega (arith, q)) (subst (λ k. BodyFits lo k v) q b),
      ))
      (λ _ f.
      let (w, b) = (body_kept lo 1).both.back s v rest f in
      let q : 1 ≡ v.form = sym (ap (λ (x : SheetValue). x.form) b.1.1) in
      let one : leb 2 v.form ≡ false = ap (λ k. leb 2 k) (sym q) in (
        w ∙ (ap (λ (k : ℕ). text_of ((body_part lo k).lines v) ++ rest) q ∙ ap (λ t. t ++ rest) (sym (first-text v one))),
        to v (omega (arith, q)) (λ two. absurd (omega (arith, q))) (subst (λ k. BodyFits lo k v) q b),
      ))

  -- what is read is the text of a readable value, and the text of a readable value is read back
  pub sheet-reads : Reads (sheet_lines lo hi) sheet_text (Readable lo hi)
  unfolding sheet_text
  sheet-reads =
      record {
        forth = λ v rest c. rw (← lines_same lo hi v) (forth v rest c);
        back = λ s v rest e. rw (← lines_same lo hi v) (back s v rest e);
      }

-- ---- the form that the first line names

-- a line kind= is no form line
kind-no-form : (k : Kind) (rest : List ℕ) → number_line form_key 2 newest_form (line_text kind_key (kind_word k) ++ rest)
    ≡ refused LineMalformed
unfolding number_line value_line split_at after_key
kind-no-form Time rest = refl
kind-no-form Space rest = refl

body-no-form : (form : ℕ) (v : SheetValue) (rest : List ℕ)
    → number_line form_key 2 newest_form (text_of ((body_part 1 form).lines v) ++ rest) ≡ refused LineMalformed
unfolding body_part head_part lines_text
body-no-form form v rest =
    ap (λ s. number_line form_key 2 newest_form s) (append_assoc (line_text kind_key (kind_word v.head.kind)) _ rest)
    ∙ kind-no-form v.head.kind _

-- the form of a form line, and 1 where there is none, whatever follows the text
pub named-later : (v : SheetValue) (rest : List ℕ) → leb 2 v.form ≡ true → v.form ≤ newest_form → named_form (sheet_text v ++ rest)
    ≡ v.form
unfolding named_form sheet_text sheet_part
named-later v rest e h =
    let body = text_of ((body_part 1 v.form).lines v) in
    ap (λ s. form_in (number_line form_key 2 newest_form s)) (later-text 1 newest_form v rest e)
    ∙ ap form_in ((number-reads form_key 2 newest_form refl).forth v.form (body ++ rest) (leb-true 2 v.form e, h))

pub named-first : (v : SheetValue) (rest : List ℕ) → leb 2 v.form ≡ false → named_form (sheet_text v ++ rest) ≡ 1
unfolding named_form sheet_text sheet_part
named-first v rest e =
    ap (λ s. form_in (number_line form_key 2 newest_form (s ++ rest))) (first-text 1 newest_form v e)
    ∙ ap form_in (body-no-form v.form v rest)
