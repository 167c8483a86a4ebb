use mathlib.Core.Path.{◌≡◌, refl}
use Rattle.model.specs.declared.Kind.TheVariants.{Time, Space}
use native.Mathlib.Omega.{arith}
use Prim.Native.Nat.{◌^◌}
use Rattle.model.proofs.Bounds.{product-within}
use Rattle.model.proofs.retention_cost.Goals as goal

-- src/lib.rt:81:35
-- src/lib.rt:82:37
-- src/lib.rt:82:36
pub overflow_mul-result : goal.overflow_mul-result
overflow_mul-result c =
    let a = c.args in
    omega (arith, product-within a.unreferenced a.z (2 ^ 16) (2 ^ 16) (omega arith) (omega arith))

-- src/lib.rt:77:1
pub returns-in-Time : goal.returns-in-Time
returns-in-Time c = let e : c.args.kind ≡ Time = cc in rw e (omega arith)

-- src/lib.rt:77:1
pub returns-in-Space : goal.returns-in-Space
returns-in-Space c = let e : c.args.kind ≡ Space = cc in rw e refl
