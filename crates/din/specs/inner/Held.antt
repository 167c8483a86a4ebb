-- What the pass over the lines of a din trace keeps and gives: the table of the pages, and the answer.
use Rattle.std.specs.Prelude.{ℕ, ◌+◌, ◌*◌, ◌-◌, ◌/◌, ◌%◌, ◌≤◌, ◌<◌, ◌≡◌, cond, List, [], ◌∷◌, eqb, length, get_or, map, Option, Some, None, Result, Ok, Err}
use Rattle.model.specs.Sheets.{most_steps}
use Rattle.model.specs.Values.{idles, padded}
use Rattle.model.specs.declared.Refusal.{Refusal}
use Rattle.din.specs.Pages.{Touched, touches, refused, segments_of, segment_count}
use Rattle.din.specs.declared.pages.Imported.{Imported}
use Rattle.din.specs.declared.pages.Seen.{Seen}

-- ---- the table of pages: at each of its places a page and a mark, one more than the page's number, 0 where the place is empty

abbrev pub mark_of : Option Seen → ℕ
mark_of None = 0
mark_of (Some s) = s.segment + 1

abbrev pub page_at : Option Seen → ℕ
page_at None = 0
page_at (Some s) = s.page

abbrev pub marks_of : List (Option Seen) → List ℕ
marks_of table = map mark_of table

abbrev pub pages_of : List (Option Seen) → List ℕ
pages_of table = map page_at table

abbrev pub table_places : ℕ
table_places = 512

-- the place at which a page is looked for first, and the place looked at after j others
unfoldable pub home_of : ℕ → ℕ
home_of p = p * 2654435769 / 8388608 % table_places

abbrev pub probe : ℕ → ℕ → ℕ
probe p j = (home_of p + j) % table_places

-- how many places are empty
unfoldable pub empty_places : List ℕ → ℕ
empty_places [] = 0
empty_places (m ∷ marks) = cond (eqb m 0) 1 0 + empty_places marks

-- the place is the first on the way from the page's home that is empty or has the page
pub record Found (pages marks : List ℕ) (p place : ℕ) : Type 0 where
  pub steps : ℕ
  pub place_is : place ≡ probe p steps
  pub passed : (j : ℕ) → j < steps → (1 ≤ get_or marks (probe p j) 0) × (get_or pages (probe p j) 0 ≡ p → ⊥)
  pub here : 1 ≤ get_or marks place 0 → get_or pages place 0 ≡ p

-- the number of the page at a place: one less than its mark, and the next number where the place is empty
abbrev pub number_at : ℕ → ℕ → ℕ
number_at mark next = cond (eqb mark 0) next (mark - 1)

-- ---- the answer

-- the segments at the front of idle entries, or the refusal
unfoldable pub imported_of : Touched → Result Imported Refusal
imported_of (touches ps) =
    Ok
    (record {
      segs = segment_count ps;
      steps = length (segments_of ps);
      touches = padded (segments_of ps) (idles most_steps);
    })
imported_of (refused r) = Err r
