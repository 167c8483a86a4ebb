-- What a head that was read stands for: the code gives places in the bytes that it is lent, the definitions speak of bytes.
use Rattle.std.specs.Prelude.{ℕ, ◌≡◌, List, Result, IfOk}
use Rattle.model.specs.Sheets.{HeadValue, most_segs, most_rows}
use Rattle.model.specs.Values.{zeros, zero_rows, head_value_of}
use Rattle.model.specs.declared.Head.{Head}
use Rattle.model.specs.declared.Refusal.{Refusal}
use Rattle.sheet.specs.Lines.{Parsed, read}
use Rattle.scan.specs.inner.AtPlace.{LinesReads, Filled}

-- a head before its lines are read: its lists are blank, and no warm segments are counted
pub record BlankHead (h : Head) : Type 0 where
  pub sizes_zero : h.sizes ≡ zeros most_segs
  pub rows_zero : h.prices ≡ zero_rows most_rows
  pub none_warm : h.warm ≡ 0
  pub holds_zero : h.holds ≡ zeros most_segs

-- a head with these warm segments
abbrev pub with_warm : HeadValue → List ℕ → List ℕ → Parsed HeadValue
with_warm h warm rest = read (record { kind = h.kind; a = h.a; sizes = h.sizes; rows = h.rows; warm = warm }) rest

-- the lists of a head stand at the front of zeros
pub record HeadFilled (h : Head) : Type 0 where
  pub sizes : Filled h.segs h.sizes (zeros most_segs)
  pub prices : Filled h.rows h.prices (zero_rows most_rows)
  pub holds : Filled h.warm h.holds (zeros most_segs)

-- the head h that was read from the bytes s is what p says, and its lists stand at the front of zeros
pub record HeadReads (s : List ℕ) (r : Result ℕ Refusal) (h : Head) (p : Parsed HeadValue) : Type 0 where
  pub reads : LinesReads s r (head_value_of h) p
  pub filled : IfOk r (λ next. HeadFilled h)
