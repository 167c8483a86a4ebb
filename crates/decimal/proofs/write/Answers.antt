-- `decimal::write` meets its contract. The loop's invariant: `out` is as it is to be once the digits of `rest` are written, and these are
-- `left`.
use mathlib.Core.Path.{refl}
use native.Mathlib.Omega.{arith}
use borrow.Author.Rules.{rules}
use Rattle.decimal.proofs.Padded.{fill_start, fill-two, fill-last, fill-last-two}
use Rattle.decimal.proofs.Written.{written-some, written-exact, written-width, written-twos}
use Rattle.decimal.proofs.write.Goals as goal

pub loop-rest-init : goal.loop-rest-init
loop-rest-init c = let e = c.width-w.ensures in
    record { whole = refl; filling = rw e (fill_start _ _ _ c.requires); left_is = e }

pub overflow_sub-left : goal.overflow_sub-left
overflow_sub-left c =
    let l = c.loop-rest in
    omega (arith, l.invariant.left_is, written-twos l.rest (omega (arith, c.loop-rest-test.true)))

pub put_pair-requires : goal.put_pair-requires
put_pair-requires c =
    let l = c.loop-rest in
    (omega arith, omega (arith, l.invariant.filling.room, l.invariant.left_is, written-twos l.rest (omega (arith, c.loop-rest-test.true))))

pub loop-rest-preserved : goal.loop-rest-preserved
loop-rest-preserved c =
    let l = c.loop-rest in
    let e = written-twos l.rest (omega (arith, c.loop-rest-test.true)) in
    record {
      whole = search rules;
      filling = fill-two _ _ _ _ _ _ l.invariant.filling (omega (arith, l.invariant.left_is, e)) c.put_pair.ensures;
      left_is = omega (arith, l.invariant.left_is, e);
    }

pub bounds-out-at : goal.bounds-out-at
bounds-out-at c =
    let l = c.loop-rest in
    omega (arith, l.invariant.filling.room, l.invariant.left_is, written-some l.rest)

pub returns-then-rest-lt10 : goal.returns-then-rest-lt10
returns-then-rest-lt10 c =
    let l = c.loop-rest in
    let one = written-exact 1 l.rest (omega arith) (written-some l.rest) (omega (arith, c.if-rest-lt10.true)) in (
      omega (arith, c.width-w.ensures),
      fill-last _ _ _ l.rest l.left l.invariant.filling (omega (arith, l.invariant.left_is, one)) (omega (arith, c.if-rest-lt10.true)),
    )

pub put_pair-requires-2 : goal.put_pair-requires-2
put_pair-requires-2 c =
    let l = c.loop-rest in
    let two = written-width 1 l.rest (omega (arith, c.if-rest-lt10.false)) (omega (arith, c.loop-rest-test.false)) in
    (omega (arith, c.loop-rest-test.false), omega (arith, l.invariant.filling.room, l.invariant.left_is, two))

pub returns : goal.returns
returns c =
    let l = c.loop-rest in
    let two = written-width 1 l.rest (omega (arith, c.if-rest-lt10.false)) (omega (arith, c.loop-rest-test.false)) in (
      omega (arith, c.width-w.ensures),
      fill-last-two _ _ _ l.rest l.left l.invariant.filling (omega (arith, l.invariant.left_is, two))
          (omega (arith, c.loop-rest-test.false)) c.put_pair-2.ensures,
    )
