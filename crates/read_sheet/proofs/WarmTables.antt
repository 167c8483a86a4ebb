-- The tables of a later form: the sizes and the rows, and then the warm segments.
use Prim.Native.Nat.{ℕ, ◌+◌}
use mathlib.Core.Path.{◌≡◌, refl, sym, ap, ◌∙◌}
use mathlib.Core.Bool.{Bool, true, false}
use mathlib.Core.List.{List, []}
use lib.ListN.{length, take, drop}
use lib.Seq.{drop-drop}
use Rattle.model.specs.Sheets.{HeadValue}
use Rattle.model.specs.Values.{head_value_of}
use Rattle.model.specs.declared.Head.{Head}
use Rattle.model.specs.declared.Kind.{Kind}
use Rattle.model.specs.declared.PriceRow.{PriceRow}
use Rattle.model.specs.declared.Refusal.{Refusal}
use Rattle.sheet.specs.Lines.{Parsed, read, refused, and_then}
use Rattle.sheet.specs.Order.{sizes_part, prices_part, warm_part, tables_part}
use Rattle.scan.proofs.Stages.{stage-read, stage-refused}
use Rattle.scan.proofs.Tails.{tail, tail-is}
use Rattle.read_sheet.specs.inner.HeadsAtPlace.{with_warm}

-- the sizes and the rows, then the warm segments of a later form
warm-tables : (kind : Kind) (a : ℕ) (s : List ℕ)
    → (tables_part true kind a).reads s
    ≡ and_then ((tables_part false kind a).reads s) (λ h rest. and_then ((warm_part (length h.sizes)).reads rest) (with_warm h))
unfolding tables_part
warm-tables kind a s = go (sizes_part.reads s)
  where
    more : List ℕ → List PriceRow → List ℕ → Parsed HeadValue
    more sizes rows rest =
        and_then ((warm_part (length sizes)).reads rest)
        (λ warm end. read (record { kind = kind; a = a; sizes = sizes; rows = rows; warm = warm }) end)

    prices : (sizes : List ℕ) (p : Parsed (List PriceRow))
        → and_then p (λ rows rest. more sizes rows rest)
        ≡ and_then (and_then p (λ rows rest. read (record { kind = kind; a = a; sizes = sizes; rows = rows; warm = [] }) rest))
        (λ h rest. and_then ((warm_part (length h.sizes)).reads rest) (with_warm h))
    prices sizes (read rows rest) = refl
    prices sizes (refused why) = refl

    go : (p : Parsed (List ℕ))
        → and_then p (λ sizes rest. and_then (prices_part.reads rest) (λ rows end. more sizes rows end))
        ≡ and_then (and_then p (λ sizes rest. and_then (prices_part.reads rest)
        (λ rows end. read (record { kind = kind; a = a; sizes = sizes; rows = rows; warm = [] }) end)))
        (λ h rest. and_then ((warm_part (length h.sizes)).reads rest) (with_warm h))
    go (read sizes rest) = prices sizes (prices_part.reads rest)
    go (refused why) = refl

module _ (later : Bool) (kind : Kind) (a : ℕ) (s : List ℕ) where
  -- where the sizes or the rows are refused
  pub tables-refused : (why : Refusal) → (tables_part false kind a).reads s ≡ refused why → (tables_part later kind a).reads s ≡ refused why
  tables-refused why e = go later
    where
      go : (b : Bool) → (tables_part b kind a).reads s ≡ refused why
      go true = warm-tables kind a s ∙ sym (stage-refused (λ q. q) _ _ why _ refl e)
      go false = e

  -- and where they are read up to the place at into a head
  module _ (t : later ≡ true) (h : Head) (segs at : ℕ) (e : read (head_value_of h) (drop at s) ≡ (tables_part false kind a).reads s)
      (n : length (head_value_of h).sizes ≡ segs) where
    whole : (tables_part later kind a).reads s
        ≡ and_then ((warm_part segs).reads (tail s at)) (with_warm (head_value_of h))
    whole =
        rw (t, warm-tables kind a s)
        (sym (stage-read (λ q. q) _ _ _ s at _ refl (sym e))
        ∙ ap (λ k. and_then ((warm_part k).reads (tail s at)) (with_warm (head_value_of h))) n)

    -- its warm segments are refused
    pub warm-refused : (why : Refusal) → (warm_part segs).reads (tail s at) ≡ refused why → (tables_part later kind a).reads s ≡ refused why
    warm-refused why f = whole ∙ rw f

    -- or read
    pub warm-read : (warm : ℕ) (holds : List ℕ) (next : ℕ)
        → (warm_part segs).reads (tail s at) ≡ read (take warm holds) (drop next (tail s at))
        → read (head_value_of (record h { warm = warm; holds = holds })) (drop (at + next) s) ≡ (tables_part later kind a).reads s
    unfolding head_value_of
    warm-read warm holds next f = sym (whole ∙ rw (f, tail-is s at, drop-drop))
