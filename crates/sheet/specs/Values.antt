-- What the lines of a sheet say: a kind, and rows of prices. Within a line the refusals 2, 3, 4, 5 apply in order.
use Rattle.std.specs.Prelude.{ℕ, zero, suc, ◌*◌, Bool, true, cond, ◌&&◌, List, [], ◌∷◌, ◌++◌, leb, ltb}
use Rattle.std.proofs.Math.Option.{Option, none, some}
use Rattle.model.specs.Sheets.{largest_price}
use Rattle.model.specs.declared.Kind.{Kind}
use Rattle.model.specs.declared.Kind.TheVariants.{Time, Space}
use Rattle.model.specs.declared.PriceRow.{PriceRow}
use Rattle.model.specs.declared.Refusal.TheVariants.{ValueMalformed, OutOfRange, ThresholdNotAbove}
use Rattle.decimal.specs.Decimal.{is_number, value, written}
use Rattle.text.specs.Keys.{slash, kind_key, row_key, kind_word}
use Rattle.text.specs.Texts.{line_text}
use Rattle.sheet.specs.Lines.{Parsed, read, refused, and_then, Split, parts, none as unsplit, split_at, value_line, same_bytes}

-- the kind that a value names: refusal 3 where it is neither word
abbrev pub kind_of : List ℕ → List ℕ → Parsed Kind
kind_of v rest =
    cond (same_bytes v (kind_word Time)) (read Time rest) (cond (same_bytes v (kind_word Space)) (read Space rest) (refused ValueMalformed))

-- the line kind=
unfoldable pub kind_line : List ℕ → Parsed Kind
kind_line s = and_then (value_line kind_key s) kind_of

-- the threshold of a row exceeds the one before, compared by cross products; the first has none before it
abbrev pub above : Option PriceRow → PriceRow → Bool
above none q = true
above (some p) q = ltb (p.h * q.d) (q.h * p.d)

-- the prices h and d within their ranges
abbrev pub in_prices : ℕ → ℕ → Bool
in_prices h d = leb h largest_price && (leb 1 d && leb d largest_price)

-- a row after another: refusal 5 where its threshold does not exceed the one before
abbrev pub row_after : Option PriceRow → PriceRow → List ℕ → Parsed PriceRow
row_after prev q rest = cond (above prev q) (read q rest) (refused ThresholdNotAbove)

-- a row of two values: refusal 3 where one is no number, then 4 where one lies outside its range, then 5
abbrev pub row_of : Option PriceRow → List ℕ → List ℕ → List ℕ → Parsed PriceRow
row_of prev x y rest =
    cond (is_number x && is_number y)
    (cond (in_prices (value x) (value y)) (row_after prev (record { h = value x; d = value y }) rest) (refused OutOfRange))
    (refused ValueMalformed)

-- a row's value is two numbers around "/": refusal 3 where there is no "/"
abbrev pub row_parts : Option PriceRow → Split → List ℕ → Parsed PriceRow
row_parts prev (parts x y) rest = row_of prev x y rest
row_parts prev unsplit rest = refused ValueMalformed

-- the line row= after the row before it
unfoldable pub row_line : Option PriceRow → List ℕ → Parsed PriceRow
row_line prev s = and_then (value_line row_key s) (λ v rest. row_parts prev (split_at slash v) rest)

-- n lines row=
unfoldable pub row_lines : ℕ → Option PriceRow → List ℕ → Parsed (List PriceRow)
row_lines zero prev s = read [] s
row_lines (suc n) prev s =
    and_then (row_line prev s) (λ q rest. and_then (row_lines n (some q) rest) (λ qs end. read (q ∷ qs) end))

-- the value of a row's line: h/d
abbrev pub row_word : PriceRow → List ℕ
row_word q = written q.h ++ (slash ∷ written q.d)

-- the line of a row
abbrev pub row_text : PriceRow → List ℕ
row_text q = line_text row_key (row_word q)
