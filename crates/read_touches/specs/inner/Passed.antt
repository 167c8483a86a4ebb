-- What is known while the lines of touches are read one after another into the entries and the marks, and these lines with the line refs=
-- before them. `letters` says that the form has the letter w.
use Rattle.std.specs.Prelude.{ℕ, ◌-◌, ◌≤◌, ◌≡◌, Bool, false, List, [], ◌∷◌, length, drop, set, replicate}
use Rattle.text.specs.Keys.{refs_key}
use Rattle.sheet.specs.Lines.{Parsed, read, and_then, number_line}
use Rattle.sheet.specs.Touches.{Touch, Entries, touch_lines, entry_lines}
use Rattle.read_touches.specs.inner.TouchesAtPlace.{entries_with}

-- entries and marks with touches put in
unfoldable pub with_touches : Bool → List ℕ → List Bool → List Touch → Entries
with_touches letters es ms [] = entries_with letters es ms
with_touches letters es ms (x ∷ xs) = with_touches letters (set es (x.step - 1) x.segment) (set ms (x.step - 1) x.modifies) xs

-- with the touches that are read
abbrev pub filling : Bool → List ℕ → List Bool → Parsed (List Touch) → Parsed Entries
filling letters es ms p = and_then p (λ xs rest. read (with_touches letters es ms xs) rest)

-- i of n lines of s are passed, their touches are put into the entries es and the marks ms, the last one's step is `before`, and the next
-- line stands at `at`; a form without the letter leaves the marks as they were
pub record PassedTouches (letters : Bool) (segs steps n : ℕ) (s es : List ℕ) (ms : List Bool) (before at i : ℕ) : Type 0 where
  pub count : i ≤ n
  pub place : at ≤ length s
  pub whole : length es ≡ steps
  pub marks_whole : length ms ≡ steps
  pub within : before ≤ steps
  pub unmarked : letters ≡ false → ms ≡ replicate steps false
  pub same : entry_lines letters segs steps n s ≡ filling letters es ms (touch_lines letters segs steps (n - i) before (drop at s))

-- the line refs=, up to the number of steps, and so many lines of touches
abbrev pub refs_lines : Bool → ℕ → ℕ → List ℕ → Parsed Entries
refs_lines letters segs steps s = and_then (number_line refs_key 0 steps s) (λ n rest. entry_lines letters segs steps n rest)
