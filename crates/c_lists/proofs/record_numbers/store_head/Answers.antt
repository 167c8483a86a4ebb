-- `c_lists::record_numbers::store_head` meets its contract.
use mathlib.Core.Path.{refl, ap}
use Rattle.c_lists.specs.declared.tables.Prices.{Prices}
use Rattle.c_lists.specs.Recorders.{lists_of}
use Rattle.c_lists.proofs.record_numbers.store_head.Goals as goal

pub returns : goal.returns
unfolding lists_of
returns c =
    let prices = c.split.ensures in
    record {
      head_is = rw (c.kind_number.ensures, c.from.ensures) refl;
      sizes_are = refl;
      holds_are = refl;
      h_are = ap (λ (p : Prices). p.h) prices;
      d_are = ap (λ (p : Prices). p.d) prices;
    }
