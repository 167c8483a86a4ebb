-- The lines of a trace that is taken: the address and the page of each, and how many there are.
use Rattle.std.specs.Prelude.{ℕ, suc, List, [], ◌∷◌, map, get_or, take}
use Rattle.std.proofs.Math.Option.{Option, none, some}
use Rattle.din.specs.Lines.{Lines, end, line, trace_lines, address_of}
use Rattle.din.specs.Pages.{page_of}

-- the addresses of the lines, and how many lines there are
abbrev pub and_address : Option ℕ → List ℕ → List ℕ
and_address none l = l
and_address (some a) l = a ∷ l

unfoldable pub addresses : Lines → List ℕ
addresses (end s) = []
addresses (line s more) = and_address (address_of s) (addresses more)

unfoldable pub line_count : Lines → ℕ
line_count (end s) = 0
line_count (line s more) = suc (line_count more)

-- the page of each line, of the line at place t, and of the lines before that
unfoldable pub pages_in : ℕ → List ℕ → List ℕ
pages_in k trace = map (page_of k) (addresses (trace_lines trace))

unfoldable pub page_at : ℕ → List ℕ → ℕ → ℕ
page_at k trace t = get_or (pages_in k trace) t 0

unfoldable pub pages_before : ℕ → List ℕ → ℕ → List ℕ
pages_before k trace t = take t (pages_in k trace)
