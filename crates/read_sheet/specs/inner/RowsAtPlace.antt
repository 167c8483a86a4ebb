-- What a row by its two readings is.
use Rattle.std.specs.Prelude.{ℕ, List, Result, Ok, Err}
use Rattle.std.proofs.Math.Option.{Option}
use Rattle.model.specs.declared.PriceRow.{PriceRow}
use Rattle.model.specs.declared.Refusal.TheVariants.{ValueMalformed, OutOfRange}
use Rattle.decimal.specs.declared.NumberError.{NumberError}
use Rattle.decimal.specs.declared.NumberError.TheVariants.{NotNumber, OutOfRange as Beyond}
use Rattle.sheet.specs.Lines.{Parsed, refused}
use Rattle.sheet.specs.Values.{row_after}

-- refusal 3 where one is no number, then 4 where one lies outside its range, then 5
abbrev pub row_of_readings : Option PriceRow → Result ℕ NumberError → Result ℕ NumberError → List ℕ → Parsed PriceRow
row_of_readings prev (Err NotNumber) y rest = refused ValueMalformed
row_of_readings prev (Err Beyond) (Err NotNumber) rest = refused ValueMalformed
row_of_readings prev (Err Beyond) (Err Beyond) rest = refused OutOfRange
row_of_readings prev (Err Beyond) (Ok d) rest = refused OutOfRange
row_of_readings prev (Ok h) (Err NotNumber) rest = refused ValueMalformed
row_of_readings prev (Ok h) (Err Beyond) rest = refused OutOfRange
row_of_readings prev (Ok h) (Ok d) rest = row_after prev (record { h = h; d = d }) rest
