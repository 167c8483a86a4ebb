-- `stores_added` meets its contract: the load of the stores is added, and the total is priced again.
use native.Mathlib.Omega.{arith}
use Rattle.sheet_schedules.proofs.Prices.{parts_within, plain-within, stores_at}
use Rattle.sheet_schedules.proofs.stores_added.Goals as goal

pub stored_load-stores-requires : goal.stored_load-stores-requires
stored_load-stores-requires c =
    let parts = parts_within _ c.requires.run_within.0 _ c.requires.run_within.1 _ _ _ c.requires.plain_is in
    record { sizes_len_bound = parts.0; marks_len = parts.1 }

pub overflow_add-load : goal.overflow_add-load
overflow_add-load c =
    omega (
      arith,
      plain-within _ c.requires.run_within.0 _ c.requires.run_within.1 _ _ _ c.requires.plain_is,
      c.stored_load-stores.ensures.result_bound,
    )

pub total-requires : goal.total-requires
total-requires c =
    omega (
      arith,
      plain-within _ c.requires.run_within.0 _ c.requires.run_within.1 _ _ _ c.requires.plain_is,
      c.stored_load-stores.ensures.result_bound,
    )

pub returns : goal.returns
returns c =
    stores_at _ c.requires.run_within.0 _ c.requires.run_within.1 _ _ _ c.requires.plain_is
    c.stored_load-stores.ensures.result_value c.total.ensures
