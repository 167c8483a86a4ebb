-- `pass_word` meets its contract. The loop's invariant: the segments before i are passed, and old and new have the other bits.
use Prim.Native.Nat.{◌+◌, ◌*◌, ◌≤◌, ◌<◌}
use mathlib.Core.Path.{refl}
use native.Mathlib.Numerals.{add-one}
use native.Mathlib.Omega.{arith}
use lib.Bits.{bit_xor}
use lib.Count.{count_trailing_zeros}
use Rattle.schedule.specs.inner.Runs.{trace}
use Rattle.pricing.proofs.Runs.{rest-start, differs-below, passes_on, passes-enters, passes-end}
use Rattle.pricing.proofs.StepCosts.{passed-within}
use Rattle.std.proofs.lemmas.Result.{err_from_is_err_and}
use Rattle.pricing.proofs.held_bits.Handed.pass_word.Goals.{In-loop-old}
use Rattle.pricing.proofs.held_bits.Handed.pass_word.Goals as goal

-- the first bit that differs stands within the word
differs : (c : In-loop-old)
    → c.loop-old.i + count_trailing_zeros 64 (bit_xor c.loop-old.old c.loop-old.new)
    < 64 * c.args.m + 64
differs c =
    differs-below (trace c.args.self.now.run) _ _ _ _ _ _ _ c.loop-old.invariant c.loop-old-test.true

pub loop-old-init : goal.loop-old-init
loop-old-init c =
    let few : 64 * c.args.m + 64 ≤ 256 = omega (arith, c.requires.m_bound) in
    record {
      within = omega arith;
      close = omega arith;
      before = rest-start (trace c.args.self.now.run) _ _ _ c.requires.step.step _ _ _ few c.word_at-old.type_inv c.word_at-old.ensures;
      after =
          rest-start (trace c.args.self.now.run) _ _ _ c.requires.step.step _ _ _ few
          c.word_at-new.type_inv (rw (add-one c.args.t) at c.word_at-new.ensures);
      passed = c.requires.passed;
    }

pub overflow_shr-o : goal.overflow_shr-o
overflow_shr-o c = omega (arith, differs c)

pub overflow_shr-n : goal.overflow_shr-n
overflow_shr-n c = omega (arith, differs c)

pub pass-requires : goal.pass-requires
pass-requires c =
    passed-within _ c.requires.step.step.limits _ _ _ _ c.loop-old.invariant.passed
    (omega (arith, c.requires.m_bound, c.loop-old.invariant.within))

pub returns-in_err-left : goal.returns-in_err-left
returns-in_err-left c =
    let p = err_from_is_err_and c.from_residual.result c.from_residual.ensures.1 in
    let touches = c.requires.step in
    rw (p.1, p.2) (
      c.in_err-left.ensures.0,
      passes-enters (trace c.args.self.now.run) _ _ _ _ _ _ _ _ touches.step.place c.loop-old.invariant c.loop-old-test.true
          (omega (arith, c.requires.m_bound)) refl _ touches.is c.in_err-left.ensures.1,
    )

pub loop-old-preserved : goal.loop-old-preserved
loop-old-preserved c =
    let touches = c.requires.step in
    passes_on (trace c.args.self.now.run) _ _ _ _ _ _ _ _ touches.step.place c.loop-old.invariant c.loop-old-test.true
    (omega (arith, c.requires.m_bound)) refl _ touches.is _ c.in_ok-left.ensures

pub returns : goal.returns
returns c =
    passes-end (trace c.args.self.now.run) _ _ _ _ _ _ _ c.loop-old.invariant c.loop-old-test.false
