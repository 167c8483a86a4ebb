-- The pages that the lines of a trace touch, numbered by first appearance, or the refusal.
use Rattle.std.specs.Prelude.{ℕ, suc, ◌/◌, ◌^◌, max, Bool, true, false, cond, ◌&&◌, ◌||◌, List, [], ◌∷◌, ◌++◌, map, eqb, leb, ltb, length}
use Rattle.std.proofs.Math.Option.{none, some}
use Rattle.model.specs.Sheets.{most_segs, most_steps}
use Rattle.model.specs.declared.Refusal.{Refusal}
use Rattle.model.specs.declared.Refusal.TheVariants.{PageOutOfRange, TraceMalformed, TraceTooLong}
use Rattle.din.specs.Lines.{Lines, end, line, trace_lines, address_of}

-- the page of an address, with pages of 2 to the power k bytes
abbrev pub page_of : ℕ → ℕ → ℕ
page_of k address = address / 2 ^ k

-- the place of a page in a list; the list's length where it is not there
unfoldable pub place_in : List ℕ → ℕ → ℕ
place_in [] p = 0
place_in (q ∷ qs) p = cond (eqb q p) 0 (suc (place_in qs p))

-- a list of different pages with one page more, at the end where it is new
unfoldable pub with_page : List ℕ → ℕ → List ℕ
with_page pages p = cond (ltb (place_in pages p) (length pages)) pages (pages ++ (p ∷ []))

-- the different pages of a list in the order of first appearance, after the pages before them
unfoldable pub firsts_after : List ℕ → List ℕ → List ℕ
firsts_after pages [] = pages
firsts_after pages (p ∷ ps) = firsts_after (with_page pages p) ps

unfoldable pub firsts : List ℕ → List ℕ
firsts ps = firsts_after [] ps

-- the segment of each page touched: its number by first appearance
unfoldable pub segments_of : List ℕ → List ℕ
segments_of ps = map (place_in (firsts ps)) ps

-- how many segments stand for the pages touched: one for each different page, and one where there is none
abbrev pub segment_count : List ℕ → ℕ
segment_count ps = max 1 (length (firsts ps))

-- the pages touched are more than 256 different ones, or were touched in more than 2,048 lines
unfoldable pub too_many : List ℕ → Bool
too_many ps = ltb most_segs (length (firsts ps)) || ltb most_steps (length ps)

-- what the lines come to: the page that each touches, or the refusal
pub data Touched : Type 0 where
  touches : List ℕ → Touched
  refused : Refusal → Touched

-- the lines in order after lines that touch the pages ps: 24 where one is malformed or lacks its line feed, then 25 where a 257th page
-- or a 2,049th line arrives
unfoldable pub touched_from : ℕ → List ℕ → Lines → Touched
touched_from k ps (end []) = touches ps
touched_from k ps (end (b ∷ s)) = refused TraceMalformed
touched_from k ps (line s more) =
    elim (address_of s) [
      | none ↦ refused TraceMalformed
      | some address ↦
          elim (too_many (ps ++ (page_of k address ∷ []))) [
            | true ↦ refused TraceTooLong
            | false ↦ touched_from k (ps ++ (page_of k address ∷ [])) more
          ]
    ]

-- the pages that a trace touches
unfoldable pub touched_by : ℕ → List ℕ → Touched
touched_by k trace = touched_from k [] (trace_lines trace)

-- the least and the largest k
abbrev pub least_power : ℕ
least_power = 8

abbrev pub largest_power : ℕ
largest_power = 24

-- what the lines of a trace come to with pages of 2 to the power k bytes: 23 where k is outside its range, before all lines
unfoldable pub touched_with : ℕ → List ℕ → Touched
touched_with k trace = cond (leb least_power k && leb k largest_power) (touched_by k trace) (refused PageOutOfRange)
