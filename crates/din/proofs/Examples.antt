-- Traces worked by hand, each with what its import comes to, in one table.
use Prim.Native.Nat.{ℕ, zero, suc}
use Prim.Native.String.{String}
use mathlib.Core.Path.{◌≡◌, refl}
use mathlib.Core.Bool.{Bool, true, false, ◌&&◌}
use mathlib.Core.List.{List, [], ◌∷◌}
use lib.Dec.{eqb}
use lib.ListN.{replicate}
use Rattle.model.specs.Refusals.{number_of}
use Rattle.text.proofs.Strings.{bytes}
use Rattle.sheet.specs.Lines.{same_bytes}
use Rattle.sheet.specs.Reading.{Outcome, accepted, rejected}
use Rattle.din.specs.Lines.{trace_lines, digit_of, all_digits, value_from, address_of}
use Rattle.din.specs.Pages.{place_in, with_page, firsts_after, firsts, segments_of, too_many, touched_from, touched_by}
use Rattle.din.specs.Pages.{touched_with}
use Rattle.din.specs.Import.{sheet_of_touched, imported}

-- an example: k and a trace, with the number of segments and the references of its sheet, or with the number of its refusal; or, with
-- k = 8, a trace after lines that touch the pages given, with the number of its refusal, 0 where it is taken
pub data Example : Type 0 where
  taken : ℕ → String → ℕ → List ℕ → Example
  refusal : ℕ → String → ℕ → Example
  after : List ℕ → String → ℕ → Example

numbered : Outcome → ℕ
numbered (accepted v) = 0
numbered (rejected r) = number_of r

comes_to : Outcome → ℕ → List ℕ → Bool
comes_to (accepted v) segs refs = eqb v.form 1 && (same_bytes v.head.sizes (replicate segs 1) && same_bytes v.entries refs)
comes_to (rejected r) segs refs = false

pub holds : Example → Bool
holds (taken k trace segs refs) = comes_to (imported k (bytes trace) []) segs refs
holds (refusal k trace n) = eqb (numbered (imported k (bytes trace) [])) n
holds (after ps trace n) = eqb (numbered (sheet_of_touched (touched_from 8 ps (trace_lines (bytes trace))) [])) n

pub all_hold : List Example → Bool
all_hold [] = true
all_hold (x ∷ xs) = holds x && all_hold xs

-- the n pages below n
down_from : ℕ → List ℕ
down_from zero = []
down_from (suc n) = n ∷ down_from n

pub examples : List Example
examples =
    -- an empty trace, and both ends of the range of k
    taken 8 "" 1 []
    ∷ taken 24 "" 1 []
    ∷ refusal 7 "" 23
    ∷ refusal 25 "" 23
    -- 23 before the lines
    ∷ refusal 7 "0 1" 23
    -- labels 0, 1 and 2, digits of both cases, leading zeros
    ∷ taken 8 "0 aF10\n1 AF3f\n2 0000aF00\n" 1 (0 ∷ 0 ∷ 0 ∷ [])
    -- pages of 256 bytes and of 512
    ∷ taken 8 "0 300\n0 100\n0 2ff\n0 1ff\n0 301\n" 3 (0 ∷ 1 ∷ 2 ∷ 1 ∷ 0 ∷ [])
    ∷ taken 9 "0 300\n0 100\n0 2ff\n0 1ff\n0 301\n" 2 (0 ∷ 1 ∷ 0 ∷ 1 ∷ 0 ∷ [])
    -- both sides of a page of the largest k
    ∷ taken 24 "0 ffffff\n0 1000000\n0 FFFFFFFF\n" 3 (0 ∷ 1 ∷ 2 ∷ [])
    -- 8 digits, 9 digits, none
    ∷ taken 8 "0 FFFFFFFF\n" 1 (0 ∷ [])
    ∷ refusal 8 "0 0FFFFFFFF\n" 24
    ∷ refusal 8 "0 \n" 24
    -- labels 3 and /, and none
    ∷ refusal 8 "3 1\n" 24
    ∷ refusal 8 "/ 1\n" 24
    ∷ refusal 8 " 1\n" 24
    -- no blank, two, a tab, and one behind the address
    ∷ refusal 8 "01\n" 24
    ∷ refusal 8 "0  1\n" 24
    ∷ refusal 8 "0\t1\n" 24
    ∷ refusal 8 "0 1 \n" 24
    -- a carriage return, an empty line, a line of a label alone
    ∷ refusal 8 "0 1\r\n" 24
    ∷ refusal 8 "\n" 24
    ∷ refusal 8 "0\n" 24
    -- the bytes beside the digits: g, @, G, `, /, :
    ∷ refusal 8 "0 g\n" 24
    ∷ refusal 8 "0 @\n" 24
    ∷ refusal 8 "0 G\n" 24
    ∷ refusal 8 "0 `\n" 24
    ∷ refusal 8 "0 /\n" 24
    ∷ refusal 8 "0 :\n" 24
    -- a last line without its line feed, after none and after one
    ∷ refusal 8 "0 1" 24
    ∷ refusal 8 "0 1\n0 1" 24
    -- an empty line between two
    ∷ refusal 8 "0 1\n\n0 1\n" 24
    -- the 2,048th line, the 2,049th, and the 2,049th malformed or without its line feed
    ∷ after (replicate 2047 0) "0 1\n" 0
    ∷ after (replicate 2048 0) "" 0
    ∷ after (replicate 2048 0) "0 1\n" 25
    ∷ after (replicate 2048 0) "0 1 \n" 24
    ∷ after (replicate 2048 0) "0 1" 24
    -- the 256th page, the 257th, the same malformed, and after 256 pages one of them
    ∷ after (down_from 255) "0 FFff\n" 0
    ∷ after (down_from 256) "0 10000\n" 25
    ∷ after (down_from 256) "0 1000g\n" 24
    ∷ after (down_from 256) "0 FFff\n" 0
    -- the first line that is refused decides
    ∷ after (down_from 256) "0 0\n0 1000g\n0 10000\n" 24
    ∷ after (down_from 256) "0 0\n0 10000\n0 1000g\n" 25
    ∷ []

pub examples-hold : all_hold examples ≡ true
unfolding bytes numbered comes_to holds all_hold down_from examples same_bytes imported touched_with touched_by touched_from too_many
    segments_of firsts firsts_after with_page place_in trace_lines digit_of all_digits value_from address_of
examples-hold = refl
