-- `figures::row_sums::Sums::working_set` meets its contract: each total is of what the callees give.
use Rattle.figures.proofs.row_sums.Sums.working_set.Goals as goal

pub returns : goal.returns
returns c =
    rw (
      c.total-2.ensures,
      c.removed-2.ensures,
      c.retained-space.ensures,
      c.total.ensures,
      c.removed.ensures,
      c.retained-memory.ensures,
    )
