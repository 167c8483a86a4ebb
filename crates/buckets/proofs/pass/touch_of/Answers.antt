-- `pass::touch_of` meets its contract.
use mathlib.Core.Path.{◌≡◌, refl}
use native.Mathlib.Omega.{arith}
use borrow.Author.Rules.{rules}
use Rattle.model.proofs.Units.{load_is}
use Rattle.buckets.specs.inner.Pass.{retention_if, unplaced}
use Rattle.buckets.specs.inner.Search.{time_since}
use Rattle.buckets.proofs.Touches.{retention-is, unplaced-limited}
use Rattle.buckets.proofs.pass.touch_of.Goals.{After-swap_cost}
use Rattle.buckets.proofs.pass.touch_of.Goals as goal

-- the retention is that of the steps since the mark
retained_as : (c : After-swap_cost) → c.map.result ≡ retention_if c.args.kind c.args.z (time_since c.args.steps c.args.mark)
retained_as c =
    retention-is c.args.kind c.args.z c.args.steps c.args.mark _ _ c.checked_sub.ensures _ c.map.ensures.cases
    (λ k R q. search rules)

is : (c : After-swap_cost) → record { size = c.args.z; retention = c.map.result; swap = c.swap_cost.result; bucket = 64 }
    ≡ unplaced c.args.kind c.args.a c.args.z (time_since c.args.steps c.args.mark)
unfolding unplaced
is c = rw (retained_as c, load_is c.swap_cost.ensures) refl

pub returns-clause-within : goal.returns-clause-within
returns-clause-within c =
    let a = c.args in
    rw (is c) (unplaced-limited a.kind a.a a.z a.steps a.mark (omega arith) (omega arith) (omega arith))

pub returns-clause-exact : goal.returns-clause-exact
returns-clause-exact c = is c
