-- The prices of rows, apart, by value.
use Rattle.std.specs.Prelude.{List, map}
use Rattle.model.specs.declared.PriceRow.{PriceRow}
use Rattle.c_lists.specs.declared.tables.Prices.{Prices}

-- the prices of rows, apart
abbrev pub prices_of : List PriceRow → Prices
prices_of rows = record { h = map (λ q. q.h) rows; d = map (λ q. q.d) rows }
