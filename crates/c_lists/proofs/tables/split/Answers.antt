-- `tables::split` meets its contract.
use mathlib.Core.Path.{◌≡◌, refl}
use borrow.Author.Rules.{rules}
use lib.ListN.{length}
use Rattle.c_lists.proofs.PriceRows.{mapped-is}
use Rattle.c_lists.proofs.tables.split.Goals as goal

pub returns : goal.returns
returns c =
    let many : length c.args.rows ≡ 64 = search rules in
    let h = mapped-is (λ q. q.h) c.args.rows c.map.result many c.map.ensures.items.long
    (λ i lt. let at = (c.map.ensures.items.at i (record { h = 0; d = 0 }) 0 lt).2 in cc) in
    let d = mapped-is (λ q. q.d) c.args.rows c.map-2.result many c.map-2.ensures.items.long
    (λ i lt. let at = (c.map-2.ensures.items.at i (record { h = 0; d = 0 }) 0 lt).2 in cc) in
    rw (h, d) refl
