-- Laws of the parts of a head as they are read into one: what was read so far, then the next part.
use Prim.Native.Nat.{ℕ, ◌+◌, ◌≤◌}
use mathlib.Core.Path.{◌≡◌, refl, sym, ap}
use mathlib.Core.Bool.{Bool, false}
use mathlib.Core.List.{List, []}
use native.Mathlib.Omega.{arith}
use lib.ListN.{length, take, drop}
use Rattle.std.specs.Prelude.{Result, Ok, Err}
use Rattle.text.specs.Keys.{segs_key, size_key, a_key}
use Rattle.model.specs.Sheets.{HeadValue, largest_a, most_segs, largest_size}
use Rattle.model.specs.Values.{zeros, head_value_of}
use Rattle.model.specs.declared.Head.{Head}
use Rattle.model.specs.declared.Kind.{Kind}
use Rattle.model.specs.declared.PriceRow.{PriceRow}
use Rattle.model.specs.declared.Refusal.{Refusal}
use Rattle.sheet.specs.Lines.{Parsed, read, refused, and_then, number_line}
use Rattle.sheet.specs.Order.{number_part, numbers_part, sizes_part, prices_part, tables_part, kind_for, head_part}
use Rattle.sheet.specs.Parts.{counted}
use Rattle.sheet.proofs.SheetLines.{tables-segs, head-segs}
use Rattle.scan.specs.inner.AtPlace.{moved_on, LinesReads}
use Rattle.scan.proofs.Blanks.{filled-length}
use Rattle.scan.proofs.Stages.{stage-read, stage-refused, then-part, after_two, moved-within, counted-most}
use Rattle.scan.proofs.Tails.{tail}
use Rattle.read_sheet.specs.inner.HeadsAtPlace.{HeadFilled, HeadReads}

-- lines that were refused
pub head-refused : (s : List ℕ) (why : Refusal) (h : Head) (p : Parsed HeadValue) → p ≡ refused why → HeadReads s (Err why) h p
head-refused s why h p e = record { reads = record { same = sym e; within = omega arith }; filled = tt }

-- ---- the sizes and the rows

-- the sizes, of which a list that is as long as the most has room for all
pub sizes-read : (m : ℕ) (s : List ℕ) (q : Parsed (List ℕ)) → m ≡ most_segs
    → q ≡ (counted (number_part segs_key 1 m) (numbers_part size_key 1 largest_size)).reads s → sizes_part.reads s ≡ q
unfolding sizes_part
sizes-read m s q h e = counted-most segs_key size_key 1 1 largest_size m most_segs s q h e

module _ (kind : Kind) (a : ℕ) (s : List ℕ) where
  -- the sizes are refused
  pub sizes-refused : (why : Refusal) → sizes_part.reads s ≡ refused why → (tables_part false kind a).reads s ≡ refused why
  unfolding tables_part
  sizes-refused why e = sym (stage-refused (λ q. q) _ _ why _ refl e)

  -- the sizes are read, and the rows are refused
  pub rows-refused : (sizes : List ℕ) (at : ℕ) → sizes_part.reads s ≡ read sizes (drop at s) → (why : Refusal)
      → prices_part.reads (tail s at) ≡ refused why → (tables_part false kind a).reads s ≡ refused why
  unfolding tables_part
  rows-refused sizes at e why f = sym (stage-read (λ q. q) _ _ sizes s at _ (stage-refused (λ q. q) _ _ why _ refl f) e)

-- both are read into a head
pub cold-read : (h : Head) (s : List ℕ) (at next : ℕ) → h.warm ≡ 0 → sizes_part.reads s ≡ read (take h.segs h.sizes) (drop at s)
    → prices_part.reads (tail s at) ≡ read (take h.rows h.prices) (drop next (tail s at))
    → read (head_value_of h) (drop (at + next) s) ≡ (tables_part false h.kind h.a).reads s
unfolding tables_part head_value_of
cold-read h s at next w e f =
    let sizes = take h.segs h.sizes in
    let g : List PriceRow → HeadValue = λ qs. record { kind = h.kind; a = h.a; sizes = sizes; rows = qs; warm = [] } in
    rw w
    (then-part _ _ sizes s at (Ok next) (Ok (at + next)) (g (take h.rows h.prices)) e
    (sym (ap (λ p. and_then p (λ qs end. read (g qs) end)) f)) refl)

-- ---- kind and a, and then the others

module _ (taken later : Bool) (s : List ℕ) where
  -- the kind is refused
  pub kind-refused : (why : Refusal) → (kind_for taken).reads s ≡ refused why → (head_part taken later).reads s ≡ refused why
  unfolding head_part
  kind-refused why e = sym (stage-refused (λ q. q) _ _ why _ refl e)

  module _ (kind : Kind) (i : ℕ) (e : (kind_for taken).reads s ≡ read kind (drop i s)) where
    -- a is refused
    pub a-refused : (why : Refusal) → number_line a_key 0 largest_a (tail s i) ≡ refused why → (head_part taken later).reads s ≡ refused why
    unfolding head_part
    a-refused why f = sym (stage-read (λ q. q) _ _ kind s i _ (stage-refused (λ q. q) _ _ why _ refl f) e)

    -- both are read
    pub a-read : (a j : ℕ) (l q : Result ℕ Refusal) (v : HeadValue) → i + j ≤ length s
        → number_line a_key 0 largest_a (tail s i) ≡ read a (drop j (tail s i))
        → LinesReads (tail s (i + j)) l v ((tables_part later kind a).reads (tail s (i + j))) → q ≡ moved_on (i + j) l
        → LinesReads s q v ((head_part taken later).reads s)
    unfolding head_part
    a-read a j l q v k f w m =
        record {
          same =
              after_two ((kind_for taken).reads s) (λ _. number_line a_key 0 largest_a) (λ k n. (tables_part later k n).reads) s i j kind a
              l q v e f w.same m;
          within = moved-within s (i + j) l q k w.within m;
        }

-- ---- the facts that a head leaves for what follows

-- a head counts its sizes
pub sizes-counted : (h : Head) → HeadFilled h → length (head_value_of h).sizes ≡ h.segs
unfolding head_value_of
sizes-counted h f = filled-length h.segs h.sizes (zeros most_segs) f.sizes

-- a head that was read has a segment
pub some_segs : (taken later : Bool) (h : Head) (s rest : List ℕ) → HeadFilled h → (head_part taken later).reads s
    ≡ read (head_value_of h) rest
    → 1 ≤ h.segs
some_segs taken later h s rest f e = rw (sizes-counted h f) at (head-segs taken later s (head_value_of h) rest e).0

-- and so have its sizes and rows
pub table-segs : (later : Bool) (kind : Kind) (a : ℕ) (h : Head) (s rest : List ℕ) → HeadFilled h
    → (tables_part later kind a).reads s ≡ read (head_value_of h) rest → 1 ≤ h.segs
table-segs later kind a h s rest f e = rw (sizes-counted h f) at (tables-segs later kind a s (head_value_of h) rest e).0
