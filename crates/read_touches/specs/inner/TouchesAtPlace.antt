-- What the results of reading the lines of touches stand for: entries and, in a form that has the letter w, marks.
use Rattle.std.specs.Prelude.{ℕ, ◌≤◌, ◌≡◌, Bool, false, cond, List, [], length, take, replicate, Result}
use Rattle.model.specs.Sheets.{idle, most_segs, most_steps}
use Rattle.model.specs.Values.{idles, blank_marks}
use Rattle.model.specs.declared.Refusal.{Refusal}
use Rattle.scan.specs.inner.AtPlace.{list_end, list_count, LinesReads, Filled}
use Rattle.sheet.specs.Lines.{Parsed}
use Rattle.sheet.specs.Touches.{Entries}

-- entries and, in a form that has the letter w, marks
abbrev pub entries_with : Bool → List ℕ → List Bool → Entries
entries_with letters xs marks = record { entries = xs; marks = cond letters marks [] }

-- how many marks n steps have: one each in a form that has the letter w
abbrev pub mark_count : Bool → ℕ → ℕ
mark_count letters n = cond letters n 0

-- entries and marks before they are read, one of each for each step: all idle and all false
pub record BlankEntries (segs : ℕ) (es : List ℕ) (ms : List Bool) : Type 0 where
  pub some : 1 ≤ segs
  pub few : segs ≤ most_segs
  pub short : length es ≤ most_steps
  pub idle_all : es ≡ replicate (length es) idle
  pub unmarked : ms ≡ replicate (length es) false

-- the same where there is room for the most steps
pub record BlankSteps (segs : ℕ) (es : List ℕ) (ms : List Bool) : Type 0 where
  pub some : 1 ≤ segs
  pub few : segs ≤ most_segs
  pub idle_all : es ≡ idles most_steps
  pub unmarked : ms ≡ blank_marks most_steps

-- entries and marks that were read from the head of s; in a form without the letter w the marks are as they were
pub record EntriesReads (letters : Bool) (s : List ℕ) (r : Result ℕ Refusal) (es : List ℕ) (ms blank : List Bool) (p : Parsed Entries) :
    Type 0 where
  pub reads : LinesReads s r (entries_with letters es ms) p
  pub unmarked : letters ≡ false → ms ≡ blank

-- entries that were read from the head of s stand at the front of es, and their marks at the front of ms; both were blank. Where they are
-- refused, what stands behind the first m is still blank
pub record StepsReads (letters : Bool) (s : List ℕ) (r : Result (ℕ × ℕ) Refusal) (m : ℕ) (es idles₀ : List ℕ) (ms marks₀ : List Bool)
    (p : Parsed Entries) : Type 0 where
  pub reads : LinesReads s (list_end r) (entries_with letters (take (list_count r m) es) (take (list_count r m) ms)) p
  pub filled : Filled (list_count r m) es idles₀
  pub marked : Filled (mark_count letters (list_count r m)) ms marks₀
