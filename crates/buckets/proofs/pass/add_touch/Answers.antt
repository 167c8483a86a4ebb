-- `pass::add_touch` meets its contract: the sums and products are within their bounds.
use Prim.Native.Nat.{◌^◌}
use mathlib.Core.Path.{◌≡◌, refl, ap, ◌∙◌}
use native.Mathlib.Omega.{arith}
use Rattle.model.proofs.Bounds.{product-within}
use Rattle.buckets.specs.inner.Search.{retained}
use Rattle.model.proofs.Units.{memory_is, load_is}
use Rattle.std.specs.Prelude.{Option, None, Some}
use Rattle.std.specs.Option.{unwrap_or}
use Rattle.model.specs.declared.MemoryUnits.{MemoryUnits}
use Rattle.buckets.proofs.pass.add_touch.Goals.{After-unwrap_or-r}
use Rattle.buckets.proofs.pass.add_touch.Goals as goal

-- no retention counts as 0
unwrapped : (o : Option MemoryUnits) → (unwrap_or o (record { 0 = 0 })).0 ≡ retained o
unwrapped None = refl
unwrapped (Some R) = refl

counted : (c : After-unwrap_or-r) → c.unwrap_or-r.result.0 ≡ retained c.args.x.retention
counted c = ap (λ (u : MemoryUnits). u.0) c.unwrap_or-r.ensures ∙ unwrapped c.args.x.retention

pub plus-requires-3 : goal.plus-requires-3
plus-requires-3 c =
    let x = c.args.x in
    let same = counted (goal.at.plus-requires-3 c).After-unwrap_or-r in
    omega (
      arith,
      c.requires,
      c.times.ensures,
      product-within c.unwrap_or-r.result.0 x.size (2 ^ 32) (2 ^ 16) (omega (arith, same)) (omega arith),
    )

pub plus-requires-4 : goal.plus-requires-4
plus-requires-4 c =
    let x = c.args.x in
    omega (
      arith,
      c.requires,
      c.times-2.ensures,
      product-within x.swap.0 x.size (2 ^ 32) (2 ^ 16) (omega arith) (omega arith),
    )

pub returns : goal.returns
returns c =
    rw (
      load_is c.plus-4.ensures,
      c.times-2.ensures,
      memory_is c.plus-3.ensures,
      c.times.ensures,
      load_is c.plus-2.ensures,
      memory_is c.plus.ensures,
      counted (goal.at.returns c).After-unwrap_or-r,
    )
