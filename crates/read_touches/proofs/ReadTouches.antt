-- Laws of reading the lines of touches: the bounds of a touch, and what is known while the lines are read one after another into the
-- entries and the marks. `letters` says that the form has the letter w.
use Prim.Native.Nat.{ℕ, zero, suc, ◌+◌, ◌-◌, ◌≤◌, ◌<◌}
use mathlib.Core.Path.{◌≡◌, refl, sym, ap, ◌∙◌}
use mathlib.Core.Bool.{Bool, true, false}
use mathlib.Core.List.{List, [], ◌∷◌, ◌++◌}
use mathlib.Core.Option.{none, some}
use native.Mathlib.Nat.{sub-zero}
use native.Mathlib.Numerals.{add-one}
use native.Mathlib.Omega.{arith}
use lib.ListN.{length, take, drop, set, replicate, length-set, length-replicate}
use lib.ListN.{replicate-append-replicate, take-append-drop}
use lib.Seq.{drop-drop, take_at, length-take-le}
use Rattle.std.specs.Prelude.{Result, Err}
use Rattle.model.specs.Sheets.{idle}
use Rattle.model.specs.declared.Refusal.{Refusal}
use Rattle.sheet.specs.Lines.{Parsed, read, refused, and_then}
use Rattle.scan.specs.inner.AtPlace.{moved_on, counted_in, list_end, list_count, Filled}
use Rattle.sheet.specs.Touches.{Touch, Entries, touch_line, touch_lines, entry_lines}
use Rattle.read_touches.specs.inner.TouchesAtPlace.{entries_with, mark_count, EntriesReads, StepsReads}
use Rattle.read_touches.specs.inner.Passed.{with_touches, filling, PassedTouches}
use Rattle.scan.proofs.Blanks.{filled_start, front-filled, front-take}
use Rattle.scan.proofs.Stages.{stage-refused, then-reads}
use Rattle.scan.proofs.Tails.{tail, tail-is, tail-place}
use Rattle.sheet.proofs.Touches.{TouchFits, touch_reads, touches_reads, filled_with, filled-placed}

-- ---- one touch

-- what is known of a touch that a line gives
touch-fits : (letters : Bool) (segs steps before : ℕ) (s : List ℕ) (x : Touch) (rest : List ℕ)
    → touch_line letters segs steps before s ≡ read x rest
    → TouchFits letters segs steps (some (record { segment = 0; step = before; modifies = false })) x
touch-fits letters segs steps before s x rest e =
    ((touch_reads letters segs steps (some (record { segment = 0; step = before; modifies = false }))).back s x rest e).1

-- its step is one of the steps
pub touch-within : (letters : Bool) (segs steps before : ℕ) (s : List ℕ) (x : Touch) (rest : List ℕ)
    → touch_line letters segs steps before s ≡ read x rest → (1 ≤ x.step) × (x.step ≤ steps)
touch-within letters segs steps before s x rest e =
    let f = touch-fits letters segs steps before s x rest e in
    (omega (arith, f.step_above), f.step_within)

-- ---- the lines of touches, read into entries and marks

-- the front of n blank elements is blank
pub blank-front : {A : Type 0} (n most : ℕ) (x : A) (es : List A) → es ≡ replicate most x → n ≤ most → take n es ≡ replicate n x
blank-front n most x es e h =
    let k : most ≡ n + (most - n) = omega (arith, h) in
    ap (take n) (e ∙ (ap (λ m. replicate m x) k ∙ sym (replicate-append-replicate n (most - n) x)))
    ∙ take_at (replicate n x) (replicate (most - n) x) n (length-replicate n x)

-- a blank element put among blank ones
set-blank : {A : Type 0} (n i : ℕ) (x : A) → set (replicate n x) i x ≡ replicate n x
set-blank zero i x = refl
set-blank (suc n) zero x = refl
set-blank (suc n) (suc i) x = ap (λ xs. x ∷ xs) (set-blank n i x)

-- entries and marks with touches put in, each by itself
with_each : (letters : Bool) (es : List ℕ) (ms : List Bool) (xs : List Touch)
    → with_touches letters es ms xs ≡ entries_with letters (filled_with (λ x. x.segment) es xs) (filled_with (λ x. x.modifies) ms xs)
unfolding with_touches filled_with
with_each letters es ms [] = refl
with_each letters es ms (x ∷ xs) = with_each letters (set es (x.step - 1) x.segment) (set ms (x.step - 1) x.modifies) xs

-- one touch more
filling-more : (letters : Bool) (es : List ℕ) (ms : List Bool) (x : Touch) (p : Parsed (List Touch))
    → filling letters es ms (and_then p (λ xs end. read (x ∷ xs) end))
    ≡ filling letters (set es (x.step - 1) x.segment) (set ms (x.step - 1) x.modifies) p
unfolding with_touches
filling-more letters es ms x (read xs end) = refl
filling-more letters es ms x (refused r) = refl

-- the entries and marks of n lines are blank ones with the touches put in
entry-lines : (letters : Bool) (segs steps n : ℕ) (s : List ℕ)
    → entry_lines letters segs steps n s
    ≡ filling letters (replicate steps idle) (replicate steps false) (touch_lines letters segs steps n 0 s)
entry-lines letters segs steps n s = go (touch_lines letters segs steps n 0 s) refl
  where
    go : (p : Parsed (List Touch)) → touch_lines letters segs steps n 0 s ≡ p
        → entry_lines letters segs steps n s ≡ filling letters (replicate steps idle) (replicate steps false) p
    go (read xs rest) e =
        let f = ((touches_reads letters segs steps n).back s xs rest e).1.1 in
        let g = rw sub-zero at (filled-placed (λ x. x.segment) idle letters segs steps xs none [] refl (omega arith) f) in
        let h = rw sub-zero at (filled-placed (λ x. x.modifies) false letters segs steps xs none [] refl (omega arith) f) in
        rw (e, with_each, g, h)
    go (refused r) e = rw e

module _ (letters : Bool) (segs steps n : ℕ) (s : List ℕ) where
  -- before the first line
  pub touches-start : (es : List ℕ) (ms : List Bool) → length es ≡ steps → es ≡ replicate steps idle → ms ≡ replicate steps false
      → PassedTouches letters segs steps n s es ms 0 0 0
  touches-start es ms l e m =
      record {
        count = omega arith;
        place = omega arith;
        whole = l;
        marks_whole = ap length m ∙ length-replicate steps false;
        within = omega arith;
        unmarked = λ _. m;
        same = entry-lines letters segs steps n s ∙ rw (sub-zero, ← e, ← m);
      }

  module _ (es : List ℕ) (ms : List Bool) (before at i : ℕ) (c : PassedTouches letters segs steps n s es ms before at i) where
    -- what the next line gives decides
    next-touch : (p : Parsed Touch) → i < n → touch_line letters segs steps before (tail s at) ≡ p
        → entry_lines letters segs steps n s
        ≡ filling letters es ms
        (and_then p (λ x rest. and_then (touch_lines letters segs steps (n - suc i) x.step rest) (λ xs end. read (x ∷ xs) end)))
    unfolding touch_lines
    next-touch p h e =
        let k : n - i ≡ suc (n - suc i) = omega arith in
        c.same ∙ rw (k, ← (tail-is s at), e)

    -- after one line more
    pub touches-step : (segment step : ℕ) (modifies : Bool) (next : ℕ) → i < n
        → touch_line letters segs steps before (tail s at)
        ≡ read (record { segment = segment; step = step; modifies = modifies }) (drop next (tail s at))
        → next ≤ length (tail s at)
        → PassedTouches letters segs steps n s (set es (step - 1) segment) (set ms (step - 1) modifies) step (at + next) (i + 1)
    touches-step segment step modifies next h e l =
        let x : Touch = record { segment = segment; step = step; modifies = modifies } in
        let f = touch-fits letters segs steps before (tail s at) x (drop next (tail s at)) e in
        record {
          count = omega arith;
          place = tail-place s at next c.place l;
          whole = rw length-set c.whole;
          marks_whole = rw length-set c.marks_whole;
          within = f.step_within;
          unmarked = λ t. ap (λ b. set ms (step - 1) b) (no-letter modifies t f.letter)
              ∙ (ap (λ xs. set xs (step - 1) false) (c.unmarked t) ∙ set-blank steps (step - 1) false);
          same =
              next-touch (read x (drop next (tail s at))) h e
              ∙ (filling-more letters es ms x (touch_lines letters segs steps (n - suc i) step (drop next (tail s at)))
              ∙ rw (add-one i, tail-is s at, drop-drop));
        }
      where
        no-letter : (b : Bool) → letters ≡ false → (b ≡ true → letters ≡ true) → b ≡ false
        no-letter true t g = sym (g refl) ∙ t
        no-letter false t g = refl

    -- at a line that is refused
    pub touches-stop : (r : Refusal) → i < n → touch_line letters segs steps before (tail s at) ≡ refused r
        → entry_lines letters segs steps n s ≡ refused r
    touches-stop r h e = next-touch (refused r) h e

    -- after the last line
    pub touches-end : n ≤ i → entry_lines letters segs steps n s ≡ read (entries_with letters es ms) (drop at s)
    unfolding touch_lines with_touches
    touches-end h = let k : n - i ≡ zero = omega arith in c.same ∙ rw k

-- entries and marks at the fronts of others
pub entries-front : (letters : Bool) (n : ℕ) (xs out : List ℕ) (ms blank : List Bool) → length xs ≡ n → length ms ≡ n
    → entries_with letters (take n (xs ++ drop n out)) (take n (ms ++ drop n blank)) ≡ entries_with letters xs ms
entries-front letters n xs out ms blank l m = rw (front-take n xs out out l, front-take n ms blank blank m)

-- no steps have no marks
pub none-marked : (letters : Bool) (blank : List Bool) → Filled (mark_count letters 0) blank blank
none-marked true blank = filled_start 0 blank blank (omega arith) refl
none-marked false blank = filled_start 0 blank blank (omega arith) refl

-- what stands behind the marks that were read is false, and where the form has none all of it
pub marks-filled : (letters : Bool) (n : ℕ) (ms blank : List Bool) → length ms ≡ n → n ≤ length blank
    → (letters ≡ false → ms ≡ take n blank) → Filled (mark_count letters n) (ms ++ drop n blank) blank
marks-filled true n ms blank l h u = front-filled n ms blank blank l h refl
marks-filled false n ms blank l h u =
    filled_start 0 (ms ++ drop n blank) blank (omega arith) (ap (λ xs. xs ++ drop n blank) (u refl) ∙ take-append-drop n blank)

-- the steps of a count that is refused
pub steps-refused : (letters : Bool) (f : ℕ → List ℕ → Parsed Entries) (p : Parsed ℕ) (s out : List ℕ) (blank : List Bool) (why : Refusal)
    → p ≡ refused why → StepsReads letters s (Err why) (counted_in p) out out blank blank (and_then p f)
steps-refused letters f p s out blank why e =
    record {
      reads = record { same = stage-refused (λ q. q) f p why (refused why) refl e; within = omega arith };
      filled = rw e (filled_start 0 out out (omega arith) refl);
      marked = rw e (none-marked letters blank);
    }

-- a count n of steps and then their entries and marks, which were read into the first n places of blank ones
pub steps-reads : (letters : Bool) (f : ℕ → List ℕ → Parsed Entries) (p : Parsed ℕ) (n : ℕ) (s : List ℕ) (at : ℕ) (l : Result ℕ Refusal)
    (q : Result (ℕ × ℕ) Refusal) (xs out : List ℕ) (ms blank : List Bool) → p ≡ read n (drop at s) → at ≤ length s
    → n ≤ length out → n ≤ length blank → length xs ≡ length (take n out) → length ms ≡ length (take n blank)
    → EntriesReads letters (tail s at) l xs ms (take n blank) (f (length (take n out)) (tail s at)) → list_count q n ≡ n
    → list_end q ≡ moved_on at l → StepsReads letters s q (counted_in p) (xs ++ drop n out) out (ms ++ drop n blank) blank (and_then p f)
steps-reads letters f p n s at l q xs out ms blank e h k₁ k₂ i₁ i₂ w c m =
    let t₁ = i₁ ∙ length-take-le n out k₁ in
    let t₂ = i₂ ∙ length-take-le n blank k₂ in
    let n' : list_count q (counted_in p) ≡ n = ap (λ r. list_count q (counted_in r)) e ∙ c in
    let r = then-reads f p n s at l (list_end q) (entries_with letters xs ms) e h (rw (length-take-le n out k₁) at w.reads) m in
    record {
      reads = rw (n', entries-front letters n xs out ms blank t₁ t₂) r;
      filled = rw n' (front-filled n xs out out t₁ k₁ refl);
      marked = rw n' (marks-filled letters n ms blank t₂ k₂ w.unmarked);
    }
