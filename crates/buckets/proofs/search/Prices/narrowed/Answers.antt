-- `buckets::search::Prices::narrowed` meets its contract: three looks leave a quarter of the rows.
use Prim.Native.Nat.{◌+◌, ◌-◌, ◌*◌, ◌≤◌}
use native.Mathlib.Omega.{arith}
use Rattle.buckets.specs.inner.Search.{Narrows}
use Rattle.buckets.proofs.Rounds.{looks-few, narrows-by-three, found-few, found-next}
use Rattle.buckets.proofs.search.Prices.narrowed.Goals.{After-unkept-third}
use Rattle.buckets.proofs.search.Prices.narrowed.Goals as goal

-- each look gives 0 or 1
few : (c : After-unkept-third) → c.unkept-first.result + c.unkept-second.result + c.unkept-third.result ≤ 3
few c =
    let a = c.args in
    looks-few a.self.now.rows a.reuse (a.lo + a.s - 1) (a.lo + 2 * a.s - 1) (a.lo + 3 * a.s - 1) _ _ _
    c.unkept-first.ensures c.unkept-second.ensures c.unkept-third.ensures

narrows : (c : After-unkept-third)
    → Narrows c.args.self.now.rows c.args.reuse c.args.lo (4 * c.args.s)
    (c.args.lo + c.args.s * (c.unkept-first.result + c.unkept-second.result + c.unkept-third.result)) c.args.s
narrows c =
    narrows-by-three _ _ _ _ c.requires.1 c.requires.2.within _ _ _ c.unkept-first.ensures c.unkept-second.ensures
    c.unkept-third.ensures

pub returns-then-self-s : goal.returns-then-self-s
returns-then-self-s c = found-few _ _ _ _ c.if-self-s.true (omega (arith, c.requires.2.within))

pub returns : goal.returns
returns c = found-next _ _ _ _ _ _ _ c.requires.2 (narrows (goal.at.returns c).After-unkept-third)

pub overflow_add-result : goal.overflow_add-result
overflow_add-result c = omega (arith, few c)

pub overflow_add-result-2 : goal.overflow_add-result-2
overflow_add-result-2 c = omega (arith, few c)

pub overflow_mul-result : goal.overflow_mul-result
overflow_mul-result c = omega (arith, (narrows c).within, c.requires.2.within)

pub overflow_add-result-3 : goal.overflow_add-result-3
overflow_add-result-3 c = omega (arith, (narrows c).within, c.requires.2.within)
