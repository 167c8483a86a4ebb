-- The touches of a sheet of form 2 on: how their lines are read and written, and that touches, and entries with their marks, say the same.
-- `letters` says that the form has the letter w.
use Prim.Native.Nat.{ℕ, zero, suc, ◌+◌, ◌-◌, ◌≤◌, ◌<◌}
use mathlib.Core.Path.{◌≡◌, refl, sym, ap, ◌∙◌, subst}
use mathlib.Core.Logic.{◌⊎◌, inl, inr, ⊎_elim}
use mathlib.Core.Bool.{Bool, true, false, cond, ◌&&◌, false≢true}
use mathlib.Core.List.{List, [], ◌∷◌, ◌++◌, append_assoc, append-nil}
use mathlib.Core.Option.{Option, none, some}
use native.Mathlib.Nat.{zero-add, add-zero}
use native.Mathlib.Omega.{arith}
use borrow.Author.Tests.{lt-ltb, ltb-true, le-leb, leb-true, eqb-true, eq-eqb, ne_eqb}
use lib.Dec.{eqb, leb, ltb}
use lib.ListN.{length, length-append, get_or, replicate, length-replicate, replicate-append-replicate, set}
use lib.Seq.{set-append_seam, get_or_at}
use Rattle.decimal.specs.Decimal.{is_number, value, written}
use Rattle.decimal.proofs.Digits.{both}
use Rattle.decimal.proofs.Written.{written-number, written-value, written_of}
use Rattle.text.specs.Keys.{line_feed, at_sign, mark_letter, ref_key}
use Rattle.text.proofs.Runs.{Each, each_map}
use Rattle.model.specs.Sheets.{idle, marks_of}
use Rattle.sheet.specs.Lines.{read, Split, parts, none as unsplit, split_at}
use Rattle.sheet.specs.Touches.{Touch, Entries, before_letter, step_part, touch_of, touch_parts, touch_line, touch_lines}
use Rattle.sheet.specs.Touches.{placed_from, entries_from, marks_from, entries_of}
use Rattle.sheet.specs.Touches.{touches_from, touches_of, step_word, touch_word, touch_text, touches_text}
use Rattle.sheet.proofs.Parsing.{by-test, refused-read, passed, lacks, lacks-append, split-forth, split-none, split-back}
use Rattle.sheet.proofs.Parsing.{Reads, Words, line_reads}
use Rattle.sheet.proofs.Runs.{lines, lines-reads}
use Rattle.sheet.proofs.Words.{written-lacks}

-- ---- the step of a touch, and the letter after it

-- a step that is written, with the letter where the form has it, is read back
pub step-forth : (letters modifies : Bool) (step : ℕ) → (modifies ≡ true → letters ≡ true)
    → step_part letters (step_word modifies step) ≡ (written step, modifies)
step-forth true true step h = rw (split-forth mark_letter (written step) [] (written-lacks mark_letter step refl))
step-forth true false step h = rw (split-none mark_letter (written step) (written-lacks mark_letter step refl))
step-forth false true step h = absurd (false≢true (h refl))
step-forth false false step h = refl

-- what is read as a step was written so, and the letter stands in a form that has it alone
pub step_back : (letters : Bool) (y : List ℕ) (step : ℕ) → (step_part letters y).0 ≡ written step
    → (y ≡ step_word (step_part letters y).1 step) × ((step_part letters y).1 ≡ true → letters ≡ true)
step_back true y step e = go (split_at mark_letter y) refl e
  where
    go : (p : Split) → split_at mark_letter y ≡ p → (before_letter y p).0 ≡ written step
        → (y ≡ step_word (before_letter y p).1 step) × ((before_letter y p).1 ≡ true → true ≡ true)
    go (parts x []) s f = (split-back mark_letter y x [] s ∙ rw f, λ _. refl)
    go (parts x (b ∷ z)) s f = (f, λ _. refl)
    go unsplit s f = (f, λ _. refl)
step_back false y step e = (e, λ f. f)

-- a step that is written has no line feed
step-plain : (modifies : Bool) (step : ℕ) → lacks line_feed (step_word modifies step) ≡ true
step-plain true step = lacks-append line_feed (written step) (mark_letter ∷ []) (written-lacks line_feed step refl) refl
step-plain false step = written-lacks line_feed step refl

-- ---- the line of a touch

-- the step of the touch before, 0 where there is none
abbrev pub step_of : Option Touch → ℕ
step_of none = 0
step_of (some x) = x.step

-- a touch's segment is below segs, its step above the one before and within steps, and it modifies in a form that has the letter alone
pub record TouchFits (letters : Bool) (segs steps : ℕ) (prev : Option Touch) (x : Touch) : Type 0 where
  pub segment_below : x.segment < segs
  pub step_above : step_of prev < x.step
  pub step_within : x.step ≤ steps
  pub letter : x.modifies ≡ true → letters ≡ true

module _ (letters : Bool) (segs steps : ℕ) (prev : Option Touch) where
  -- the tests that lead to a touch
  touch_tests : (x y : List ℕ) (m : Bool) (rest : List ℕ) (q : Touch) (end : List ℕ)
      → touch_of segs steps (step_of prev) x y m rest ≡ read q end
      → ((step : ℕ) → y ≡ written step → m ≡ true → letters ≡ true)
      → (x ≡ written q.segment) × (y ≡ written q.step) × (m ≡ q.modifies) × (rest ≡ end) × TouchFits letters segs steps prev q
  touch_tests x y m rest q end e t =
      let (n, f) = passed (is_number x && is_number y) _ _ q end e in
      let (p, g) = passed (ltb (value x) segs) _ _ q end f in
      let (a, k) = passed (ltb (step_of prev) (value y) && leb (value y) steps) _ _ q end g in
      let (i, j) = both (is_number x) (is_number y) n in
      let (l, u) = both (ltb (step_of prev) (value y)) (leb (value y) steps) a in
      let r : record { segment = value x; step = value y; modifies = m } ≡ q = cc in
      rw (← r) (
        sym (written_of x i),
        sym (written_of y j),
        refl,
        (cc),
        record {
          segment_below = ltb-true (value x) segs p;
          step_above = ltb-true (step_of prev) (value y) l;
          step_within = leb-true (value y) steps u;
          letter = t (value y) (sym (written_of y j));
        },
      )

  -- how the value of a line ref= is read
  touch_words : Words (λ v rest. touch_parts letters segs steps (step_of prev) (split_at at_sign v) rest) touch_word
      (TouchFits letters segs steps prev)
  touch_words =
      record {
        plain = λ q.
            lacks-append line_feed (written q.segment) (at_sign ∷ step_word q.modifies q.step)
            (written-lacks line_feed q.segment refl)
            (step-plain q.modifies q.step);
        forth = λ q rest f.
            rw (
              split-forth at_sign (written q.segment) (step_word q.modifies q.step) (written-lacks at_sign q.segment refl),
              step-forth letters q.modifies q.step f.letter,
              written-number q.segment,
              written-number q.step,
              written-value q.segment,
              written-value q.step,
              lt-ltb q.segment segs f.segment_below,
              lt-ltb (step_of prev) q.step f.step_above,
              le-leb q.step steps f.step_within,
            );
        back = λ v rest q end e. go (split_at at_sign v) refl rest q end e;
      }
    where
      go : {v : List ℕ} (p : Split) → split_at at_sign v ≡ p → (rest : List ℕ) (q : Touch) (end : List ℕ)
          → touch_parts letters segs steps (step_of prev) p rest ≡ read q end
          → (v ≡ touch_word q) × (rest ≡ end) × TouchFits letters segs steps prev q
      go {v} (parts x y) s rest q end e =
          let (i, j, k, m, f) =
          touch_tests x (step_part letters y).0 (step_part letters y).1 rest q end e (λ n h. (step_back letters y n h).1) in
          let w : y ≡ step_word q.modifies q.step = (step_back letters y q.step j).0 ∙ rw k in
          (split-back at_sign v x y s ∙ rw i (ap (λ z. written q.segment ++ (at_sign ∷ z)) w), m, f)
      go unsplit s rest q end e = absurd (refused-read e)

  -- so is the line
  pub touch_reads : Reads (touch_line letters segs steps (step_of prev)) touch_text (TouchFits letters segs steps prev)
  unfolding touch_line
  touch_reads = line_reads ref_key _ touch_word (TouchFits letters segs steps prev) refl touch_words

-- ---- the lines of touches

module _ (letters : Bool) (segs steps : ℕ) where
  -- n lines of touches are a run of lines
  pub touch-lines : (n : ℕ) (prev : Option Touch) (s : List ℕ)
      → touch_lines letters segs steps n (step_of prev) s ≡ lines (λ p. touch_line letters segs steps (step_of p)) n prev s
  unfolding touch_lines lines
  touch-lines zero prev s = refl
  touch-lines (suc n) prev s = simp (← touch-lines n)

  -- n lines of touches
  pub touches_reads : (n : ℕ)
      → Reads (touch_lines letters segs steps n 0) touches_text (λ xs. (length xs ≡ n) × Each (TouchFits letters segs steps) none xs)
  touches_reads n =
      let F = TouchFits letters segs steps in
      let r = lines-reads (λ p. touch_line letters segs steps (step_of p)) touch_text F (touch_reads letters segs steps) n none in
      record {
        forth = λ xs rest h. rw (touch-lines n none) (r.forth xs rest h);
        back = λ s xs rest e. r.back s xs rest (sym (touch-lines n none s) ∙ e);
      }

-- ---- what stands for each step

module _ {A : Type 0} (blank : A) (f : Touch → A) where
  -- touches that fit have as many as there are steps
  pub placed_length : (letters : Bool) (segs steps : ℕ) (xs : List Touch) (prev : Option Touch) → step_of prev ≤ steps
      → Each (TouchFits letters segs steps) prev xs → length (placed_from blank f (step_of prev) steps xs) ≡ steps - step_of prev
  unfolding placed_from
  placed_length letters segs steps [] prev h c = length-replicate (steps - step_of prev) blank
  placed_length letters segs steps (x ∷ xs) prev h (t, c) =
      let l = placed_length letters segs steps xs (some x) t.step_within c in
      rw (length-append, length-replicate {A = A} (x.step - suc (step_of prev)) blank)
      (omega (arith, l, t.step_above, t.step_within))

  -- behind the steps before: as many as there are up to a touch, and with it
  up_to : (p : List A) (prev : Option Touch) (x : Touch) → length p ≡ step_of prev → step_of prev < x.step
      → length (p ++ replicate (x.step - suc (step_of prev)) blank) ≡ x.step - 1
  up_to p prev x e h = rw (length-append, length-replicate {A = A} (x.step - suc (step_of prev)) blank) (omega arith)

  with_it : (q : List A) (x : Touch) → length q ≡ x.step - 1 → 0 < x.step → length (q ++ (f x ∷ [])) ≡ x.step
  with_it q x e h = rw length-append (omega arith)

  -- a touch stands in its step
  pub placed_at : (letters : Bool) (segs steps : ℕ) (xs : List Touch) (prev : Option Touch) (p : List A) → length p ≡ step_of prev
      → Each (TouchFits letters segs steps) prev xs
      → Each (λ _ x. get_or (p ++ placed_from blank f (step_of prev) steps xs) (x.step - 1) blank ≡ f x) prev xs
  unfolding placed_from
  placed_at letters segs steps [] prev p e c = tt
  placed_at letters segs steps (x ∷ xs) prev p e (t, c) =
      let q = p ++ replicate (x.step - suc (step_of prev)) blank in
      let rest = placed_from blank f x.step steps xs in
      let l : length q ≡ x.step - 1 = up_to p prev x e t.step_above in
      let m = with_it q x l (omega (arith, t.step_above)) in
      let here : p ++ (replicate (x.step - suc (step_of prev)) blank ++ (f x ∷ rest)) ≡ q ++ (f x ∷ rest) =
      sym (append_assoc p (replicate (x.step - suc (step_of prev)) blank) (f x ∷ rest)) in
      let beyond : (q ++ (f x ∷ [])) ++ rest ≡ q ++ (f x ∷ rest) = append_assoc q (f x ∷ []) rest in
      subst (λ (s : List A). (get_or s (x.step - 1) blank ≡ f x) × Each (λ _ y. get_or s (y.step - 1) blank ≡ f y) (some x) xs) (sym here) (
        get_or_at q (f x) rest blank (x.step - 1) l,
        rw beyond at (placed_at letters segs steps xs (some x) (q ++ (f x ∷ [])) m c),
      )

  -- where no touch stands in the step after `before`, it is blank
  blank_first : (before steps : ℕ) (xs : List Touch) → before < steps → ((x : Touch) (ys : List Touch) → xs ≡ x ∷ ys → suc before < x.step)
      → placed_from blank f before steps xs ≡ blank ∷ placed_from blank f (suc before) steps xs
  unfolding placed_from
  blank_first before steps [] h g = let e : steps - before ≡ suc (steps - suc before) = omega arith in rw e
  blank_first before steps (x ∷ xs) h g =
      let e : x.step - suc before ≡ suc (x.step - suc (suc before)) = omega (arith, g x xs refl) in
      rw e

  -- what stands for each of the entries xs
  for_entries : (ℕ → Bool) → ℕ → List ℕ → List A
  for_entries m before [] = []
  for_entries m before (x ∷ xs) =
      cond (eqb x idle) blank (f (record { segment = x; step = suc before; modifies = m before })) ∷ for_entries m (suc before) xs

-- the first touch of entries after `before` is after it
first-after : (m : ℕ → Bool) (xs : List ℕ) (before : ℕ) (x : Touch) (ys : List Touch) → touches_from m before xs ≡ x ∷ ys → before < x.step
unfolding touches_from
first-after m [] before x ys e = let z : ◌≡◌ {A = ℕ} 0 1 = cc in omega arith
first-after m (w ∷ xs) before x ys e =
    by-test (eqb w idle) _ _ (x ∷ ys) e
    (λ _ h. omega (arith, first-after m xs (suc before) x ys h))
    (λ _ h. let g : suc before ≡ x.step = cc in omega arith)

-- the touches of entries have for each step what stands for its entry
placed-back : {A : Type 0} (blank : A) (f : Touch → A) (m : ℕ → Bool) (xs : List ℕ) (before : ℕ)
    → placed_from blank f before (before + length xs) (touches_from m before xs) ≡ for_entries blank f m before xs
unfolding placed_from touches_from for_entries
placed-back blank f m [] before = let e : before + 0 - before ≡ 0 = omega arith in rw e
placed-back {A} blank f m (x ∷ xs) before = go (eqb x idle) (placed-back blank f m xs (suc before))
  where
    touch : Touch
    touch = record { segment = x; step = suc before; modifies = m before }

    e : before + suc (length xs) ≡ suc before + length xs
    e = omega arith

    later : List Touch
    later = touches_from m (suc before) xs

    go : (b : Bool) → placed_from blank f (suc before) (suc before + length xs) later ≡ for_entries blank f m (suc before) xs
        → placed_from blank f before (before + suc (length xs)) (cond b later (touch ∷ later))
        ≡ cond b blank (f touch) ∷ for_entries blank f m (suc before) xs
    go true rest =
        blank_first blank f before (before + suc (length xs)) later (omega arith)
        (λ y ys p. first-after m xs (suc before) y ys p)
        ∙ rw (e, rest)
    go false rest =
        let z : suc before - suc before ≡ 0 = omega arith in
        rw (z, e, rest)

-- ---- touches and entries

-- idle entries have no touch
idle-touches : (m : ℕ → Bool) (k before : ℕ) (xs : List ℕ) → touches_from m before (replicate k idle ++ xs) ≡ touches_from m (k + before) xs
unfolding touches_from
idle-touches m zero before xs = rw zero-add
idle-touches m (suc k) before xs =
    let e : k + suc before ≡ suc k + before = omega arith in
    idle-touches m k (suc before) xs ∙ ap (λ b. touches_from m b xs) e

-- marks say of a touch whether it modifies
abbrev pub Marked : (ℕ → Bool) → Option Touch → Touch → Type 0
Marked m prev x = m (x.step - 1) ≡ x.modifies

-- the touches of the entries of touches are these touches, with marks that say so of each
pub touches-back : (letters : Bool) (segs steps : ℕ) → segs ≤ idle → (m : ℕ → Bool) (xs : List Touch) (prev : Option Touch)
    → Each (TouchFits letters segs steps) prev xs → Each (Marked m) prev xs
    → touches_from m (step_of prev) (entries_from (step_of prev) steps xs) ≡ xs
unfolding placed_from touches_from
touches-back letters segs steps h m [] prev c d = rw append-nil at (idle-touches m (steps - step_of prev) (step_of prev) [])
touches-back letters segs steps h m (x ∷ xs) prev (f, c) (g, d) =
    let k = x.step - suc (step_of prev) in
    let e : suc (k + step_of prev) ≡ x.step = omega (arith, f.step_above) in
    let u : k + step_of prev ≡ x.step - 1 = omega (arith, f.step_above) in
    let n : x.segment ≡ idle → ⊥ = λ p. omega (arith, f.segment_below) in
    idle-touches m k (step_of prev) (x.segment ∷ entries_from x.step steps xs)
    ∙ rw (ne_eqb x.segment idle n, e, touches-back letters segs steps h m xs (some x) c d, u, g)

-- the marks of a form agree with its touches, those of a form without the letter as those of no touch do
pub entries-marked : (letters : Bool) (segs steps : ℕ) (xs : List Touch) → Each (TouchFits letters segs steps) none xs
    → Each (Marked (marks_of (entries_of letters steps xs).marks)) none xs
entries-marked true segs steps xs c = placed_at false (λ x. x.modifies) true segs steps xs none [] refl c
entries-marked false segs steps xs c =
    each_map (TouchFits false segs steps) (Marked (marks_of [])) (λ prev x f. unmarked x.modifies f.letter) none xs c
  where
    unmarked : (b : Bool) → (b ≡ true → false ≡ true) → false ≡ b
    unmarked true f = f refl
    unmarked false f = refl

-- so the touches of the entries and marks of touches are these touches
pub touches-again : (letters : Bool) (segs steps : ℕ) → segs ≤ idle → (xs : List Touch) → Each (TouchFits letters segs steps) none xs
    → touches_of (entries_of letters steps xs) ≡ xs
touches-again letters segs steps h xs c =
    touches-back letters segs steps h (marks_of (entries_of letters steps xs).marks) xs none c (entries-marked letters segs steps xs c)

-- the entries of the touches of entries are these entries, with any marks
pub entries-back : (m : ℕ → Bool) (xs : List ℕ) (before : ℕ) → entries_from before (before + length xs) (touches_from m before xs) ≡ xs
unfolding for_entries
entries-back m xs before = placed-back idle (λ x. x.segment) m xs before ∙ go xs before
  where
    one : (x : ℕ) (b : Bool) → eqb x idle ≡ b → cond b idle x ≡ x
    one x true e = sym (eqb-true x idle e)
    one x false e = refl

    go : (ys : List ℕ) (k : ℕ) → for_entries idle (λ x. x.segment) m k ys ≡ ys
    go [] k = refl
    go (y ∷ ys) k = rw (one y (eqb y idle) refl, go ys (suc k))

-- marks are true at touches alone
abbrev pub OnTouches : ℕ → List ℕ → List Bool → Type 0
OnTouches segs xs ms = (t : ℕ) → marks_of ms t ≡ true → get_or xs t segs < segs

-- the marks of the touches of entries are the marks, which are as many and true at touches alone
pub marks-back : (segs : ℕ) → segs ≤ idle → (m : ℕ → Bool) (xs : List ℕ) (ms : List Bool) (before : ℕ) → length ms ≡ length xs
    → ((k : ℕ) → m (before + k) ≡ marks_of ms k) → OnTouches segs xs ms
    → marks_from before (before + length xs) (touches_from m before xs) ≡ ms
unfolding for_entries
marks-back segs h m xs ms before l e c = placed-back false (λ x. x.modifies) m xs before ∙ go xs ms before l e c
  where
    one : (x : ℕ) (b t : Bool) → eqb x idle ≡ t → (b ≡ true → x < segs) → cond t false b ≡ b
    one x b false e f = refl
    one x false true e f = refl
    one x true true e f = absurd (omega (arith, eqb-true x idle e, f refl))

    go : (ys : List ℕ) (bs : List Bool) (k : ℕ) → length bs ≡ length ys → ((i : ℕ) → m (k + i) ≡ marks_of bs i) → OnTouches segs ys bs
        → for_entries false (λ x. x.modifies) m k ys ≡ bs
    go [] [] k l e c = refl
    go [] (b ∷ bs) k l e c = absurd (omega arith)
    go (y ∷ ys) [] k l e c = absurd (omega arith)
    go (y ∷ ys) (b ∷ bs) k l e c =
        let first : m k ≡ b = ap m (sym (add-zero k)) ∙ e 0 in
        let next : (i : ℕ) → m (suc k + i) ≡ marks_of bs i = λ i. let p : suc k + i ≡ k + suc i = omega arith in ap m p ∙ e (suc i) in
        rw (first, one y b (eqb y idle) refl (c 0), go ys bs (suc k) (omega arith) next (λ t. c (suc t)))

-- what marks are asked for: in a form with the letter there is one for each step, true at touches alone; in the others there are none
abbrev pub MarksFit : Bool → ℕ → List ℕ → List Bool → Type 0
MarksFit true segs xs ms = (length ms ≡ length xs) × OnTouches segs xs ms
MarksFit false segs xs ms = ms ≡ []

-- a form in which a touch modifies has the letter
pub marks-letter : (letters : Bool) (segs : ℕ) (xs : List ℕ) (ms : List Bool) → MarksFit letters segs xs ms
    → (t : ℕ) → marks_of ms t ≡ true → letters ≡ true
marks-letter true segs xs ms c t e = refl
marks-letter false segs xs ms c t e = ap (λ bs. marks_of bs t) (sym c) ∙ e

-- marks that fit are true at touches alone
pub marks-touched : (letters : Bool) (segs : ℕ) (xs : List ℕ) (ms : List Bool) → MarksFit letters segs xs ms → OnTouches segs xs ms
marks-touched true segs xs ms c = c.1
marks-touched false segs xs ms c = λ t e. absurd (false≢true (marks-letter false segs xs ms c t e))

-- the entries and marks of the touches of entries are these entries, with marks that fit
pub entries-again : (letters : Bool) (segs : ℕ) → segs ≤ idle → (e : Entries) → MarksFit letters segs e.entries e.marks
    → entries_of letters (length e.entries) (touches_of e) ≡ e
entries-again letters segs h e c =
    let z : 0 + length e.entries ≡ length e.entries = omega arith in
    let a : entries_from 0 (length e.entries) (touches_of e) ≡ e.entries = rw z at (entries-back (marks_of e.marks) e.entries 0) in
    rw (a, go letters c)
  where
    go : (b : Bool) → MarksFit b segs e.entries e.marks → cond b (marks_from 0 (length e.entries) (touches_of e)) [] ≡ e.marks
    go true (l, t) =
        let z : 0 + length e.entries ≡ length e.entries = omega arith in
        rw z at (marks-back segs h (marks_of e.marks) e.entries e.marks 0 l (λ k. ap (marks_of e.marks) (zero-add k)) t)
    go false c = sym c

-- an entry is a segment below segs, or idle
abbrev pub EntryFits : ℕ → Option ℕ → ℕ → Type 0
EntryFits segs prev x = (x < segs) ⊎ (x ≡ idle)

-- idle entries fit
idle-fit : (segs k : ℕ) (prev : Option ℕ) (xs : List ℕ) → ((p : Option ℕ) → Each (EntryFits segs) p xs)
    → Each (EntryFits segs) prev (replicate k idle ++ xs)
idle-fit segs zero prev xs c = c prev
idle-fit segs (suc k) prev xs c = (inr refl, idle-fit segs k (some idle) xs c)

-- the entries of touches that fit do
pub entries_fit : (letters : Bool) (segs steps : ℕ) (xs : List Touch) (prev : Option Touch) (p : Option ℕ)
    → Each (TouchFits letters segs steps) prev xs → Each (EntryFits segs) p (entries_from (step_of prev) steps xs)
unfolding placed_from
entries_fit letters segs steps [] prev p c = rw append-nil at (idle-fit segs (steps - step_of prev) p [] (λ q. tt))
entries_fit letters segs steps (x ∷ xs) prev p (f, c) =
    idle-fit segs (x.step - suc (step_of prev)) p (x.segment ∷ entries_from x.step steps xs)
    (λ q. (inl f.segment_below, entries_fit letters segs steps xs (some x) (some x.segment) c))

-- marks behind those of idle entries
idle-marks : (segs k : ℕ) (xs : List ℕ) (ms : List Bool) → OnTouches segs xs ms
    → OnTouches segs (replicate k idle ++ xs) (replicate k false ++ ms)
idle-marks segs zero xs ms c t e = c t e
idle-marks segs (suc k) xs ms c zero e = absurd (false≢true e)
idle-marks segs (suc k) xs ms c (suc t) e = idle-marks segs k xs ms c t e

-- so the marks of touches that fit are true at touches alone
placed-touched : (letters : Bool) (segs steps : ℕ) (xs : List Touch) (prev : Option Touch) → Each (TouchFits letters segs steps) prev xs
    → OnTouches segs (entries_from (step_of prev) steps xs) (marks_from (step_of prev) steps xs)
unfolding placed_from
placed-touched letters segs steps [] prev c =
    simp append-nil at (idle-marks segs (steps - step_of prev) [] [] (λ t e. absurd (false≢true e)))
placed-touched letters segs steps (x ∷ xs) prev (f, c) =
    idle-marks segs (x.step - suc (step_of prev)) (x.segment ∷ entries_from x.step steps xs) (x.modifies ∷ marks_from x.step steps xs)
    (λ t e. go t e (placed-touched letters segs steps xs (some x) c))
  where
    go : (t : ℕ) → marks_of (x.modifies ∷ marks_from x.step steps xs) t ≡ true
        → OnTouches segs (entries_from x.step steps xs) (marks_from x.step steps xs)
        → get_or (x.segment ∷ entries_from x.step steps xs) t segs < segs
    go zero e g = f.segment_below
    go (suc t) e g = g t e

-- and those of a form fit
pub marks_fit : (letters : Bool) (segs steps : ℕ) (xs : List Touch) → Each (TouchFits letters segs steps) none xs
    → MarksFit letters segs (entries_of letters steps xs).entries (entries_of letters steps xs).marks
marks_fit true segs steps xs c = (
  placed_length false (λ x. x.modifies) true segs steps xs none (omega arith) c
      ∙ sym (placed_length idle (λ x. x.segment) true segs steps xs none (omega arith) c),
  placed-touched true segs steps xs none c,
)
marks_fit false segs steps xs c = refl

-- the touches of entries that fit do too, with marks that are false where the form has no letter
pub touches-fit : (letters : Bool) (segs steps : ℕ) (m : ℕ → Bool) → ((k : ℕ) → m k ≡ true → letters ≡ true)
    → (xs : List ℕ) (p : Option ℕ) (prev : Option Touch) (before : ℕ) → step_of prev ≤ before
    → before + length xs ≤ steps → Each (EntryFits segs) p xs → Each (TouchFits letters segs steps) prev (touches_from m before xs)
unfolding touches_from
touches-fit letters segs steps m w [] p prev before h l c = tt
touches-fit letters segs steps m w (x ∷ xs) p prev before h l (f, c) =
    go (eqb x idle) refl (λ q k. touches-fit letters segs steps m w xs (some x) q (suc before) k (omega arith) c)
  where
    touch : Touch
    touch = record { segment = x; step = suc before; modifies = m before }

    below : eqb x idle ≡ false → x < segs
    below e = ⊎_elim (λ i. i) (λ i. absurd (false≢true (sym e ∙ eq-eqb x idle i))) f

    go : (b : Bool) → eqb x idle ≡ b
        → ((q : Option Touch) → step_of q ≤ suc before → Each (TouchFits letters segs steps) q (touches_from m (suc before) xs))
        → Each (TouchFits letters segs steps) prev (cond b (touches_from m (suc before) xs) (touch ∷ touches_from m (suc before) xs))
    go true e rest = rest prev (omega arith)
    go false e rest = (
      record { segment_below = below e; step_above = omega arith; step_within = omega arith; letter = w before },
      rest (some touch) (omega arith),
    )

-- ---- filled in touch by touch

module _ {A : Type 0} (f : Touch → A) where
  -- a list for each step, with what f says of the touches put in
  unfoldable pub filled_with : List A → List Touch → List A
  filled_with es [] = es
  filled_with es (x ∷ xs) = filled_with (set es (x.step - 1) (f x)) xs

  -- the first element behind others, put in
  set-behind : (p xs : List A) (y x : A) → set (p ++ (y ∷ xs)) (length p) x ≡ (p ++ (x ∷ [])) ++ xs
  set-behind p xs y x = set-append_seam p y xs x ∙ sym (append_assoc p (x ∷ []) xs)

  -- what stands for each step are blank elements with those of the touches put in
  pub filled-placed : (blank : A) (letters : Bool) (segs steps : ℕ) (xs : List Touch) (prev : Option Touch) (p : List A)
      → length p ≡ step_of prev → step_of prev ≤ steps → Each (TouchFits letters segs steps) prev xs
      → filled_with (p ++ replicate (steps - step_of prev) blank) xs ≡ p ++ placed_from blank f (step_of prev) steps xs
  unfolding filled_with placed_from
  filled-placed blank letters segs steps [] prev p e h c = refl
  filled-placed blank letters segs steps (x ∷ xs) prev p e h (t, c) =
      let k = x.step - suc (step_of prev) in
      let q = p ++ replicate k blank in
      let rest = replicate (steps - x.step) blank in
      let m : steps - step_of prev ≡ k + suc (steps - x.step) = omega (arith, t.step_above, t.step_within) in
      let l : x.step - 1 ≡ length q = sym (up_to blank f p prev x e t.step_above) in
      let n = with_it blank f q x (sym l) (omega (arith, t.step_above)) in
      let split : p ++ replicate (steps - step_of prev) blank ≡ q ++ (blank ∷ rest) =
      rw (m, ← replicate-append-replicate k (suc (steps - x.step)) blank) (sym (append_assoc p (replicate k blank) _)) in
      rw (split, l, set-behind q rest blank (f x))
      (filled-placed blank letters segs steps xs (some x) (q ++ (f x ∷ [])) n t.step_within c ∙ simp append_assoc)
