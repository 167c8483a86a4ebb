-- `pass::add_end` meets its contract.
use Rattle.buckets.proofs.pass.add_end.Goals as goal

pub returns-then-is_some : goal.returns-then-is_some
returns-then-is_some c = rw (← c.is_some.ensures, c.if-is_some.true) c.add_touch.ensures

pub returns-else-is_some : goal.returns-else-is_some
returns-else-is_some c = rw (← c.is_some.ensures, c.if-is_some.false)
