-- `lru_curve::recency_list::walk_turns` meets its contract: the turns passed do not have x, and each of their entries is counted.
use Prim.Native.Nat.{ℕ, ◌+◌, ◌≤◌}
use mathlib.Core.Path.{refl, ap, ◌∙◌}
use native.Mathlib.Omega.{arith}
use borrow.Author.Rules.{rules}
use Rattle.lru_curve.proofs.Indexes.{walked, looked-at-most}
use Rattle.lru_curve.proofs.Turns.{turn-before, turn-most, turn-found, turn-looked, turn-passed, turn_last}
use Rattle.lru_curve.proofs.recency_list.walk_turns.Goals as goal

pub loop-i-init : goal.loop-i-init
loop-i-init c = (omega arith, refl, omega arith)

pub overflow_add-total : goal.overflow_add-total
overflow_add-total c =
    let l = c.loop-i in
    let e = l.invariant.1 in
    let most = looked-at-most _ _ c.walk_along-w.ensures in
    search rules

pub returns-then-w-lt-TURN : goal.returns-then-w-lt-TURN
returns-then-w-lt-TURN c =
    let l = c.loop-i in
    rw l.invariant.1
    (turn-found _ _ l.i (l.i + 4) l.invariant.2 (omega arith) (omega (arith, c.loop-i-test.true)) c.walk_along-w.result
    c.walk_along-w.ensures (omega (arith, c.if-w-lt-TURN.true)))

pub loop-i-preserved : goal.loop-i-preserved
loop-i-preserved c =
    let l = c.loop-i in
    let past : l.i + 4 ≤ l.i + c.walk_along-w.result.before = omega (arith, c.if-w-lt-TURN.false) in (
      omega (arith, c.loop-i-test.true),
      rw l.invariant.1
          (turn-looked _ _ l.i (l.i + 4) l.invariant.2 (omega arith) (omega (arith, c.loop-i-test.true)) c.walk_along-w.result
          c.walk_along-w.ensures past),
      turn-passed _ _ l.i (l.i + 4) l.invariant.2 (omega arith) (omega (arith, c.loop-i-test.true)) c.walk_along-w.result
          c.walk_along-w.ensures past,
    )

-- what is left is within the list
pub overflow_add-result-2 : goal.overflow_add-result-2
overflow_add-result-2 c =
    let l = c.loop-i in
    let inside = l.invariant.0 in
    let most = turn-before _ _ l.i _ l.invariant.2 l.invariant.0 (omega arith) c.walk_along-w-2.result c.walk_along-w-2.ensures in
    search rules

pub overflow_add-result-3 : goal.overflow_add-result-3
overflow_add-result-3 c =
    let l = c.loop-i in
    let e = l.invariant.1 in
    let most = turn-most _ _ l.i _ l.invariant.2 l.invariant.0 (omega arith) c.walk_along-w-2.result c.walk_along-w-2.ensures in
    search rules

pub returns : goal.returns
returns c =
    let l = c.loop-i in
    ap (λ (k : ℕ). walked (l.i + c.walk_along-w-2.result.before) (k + c.walk_along-w-2.result.looked)) l.invariant.1
    ∙ turn_last _ _ l.i _ l.invariant.2 l.invariant.0 (omega arith) c.walk_along-w-2.result c.walk_along-w-2.ensures refl
