-- `start_mask` meets its contract: the mask has the bits of the warm segments passed so far.
use Prim.Native.Nat.{ℕ, ◌*◌, ◌/◌, ◌%◌, ◌^◌}
use mathlib.Core.Path.{◌≡◌, ap, ◌∙◌}
use native.Mathlib.Omega.{arith}
use native.Mathlib.Numerals.{add-one}
use lib.ListN.{get_or}
use lib.Pow.{shl_exact}
use Rattle.schedule.specs.inner.Writing.{masked}
use Rattle.schedule.proofs.StartMasks.{start_mask-none, start_mask-more, start_mask-beyond}
use Rattle.schedule.proofs.starting.start_mask.Goals.{then-i-lt-MAX_SEGS, else-i-lt-MAX_SEGS}
use Rattle.schedule.proofs.starting.start_mask.Goals as goal

pub loop-entry-init : goal.loop-entry-init
loop-entry-init c = start_mask-none

pub loop-entry-preserved : goal.loop-entry-preserved
loop-entry-preserved c =
    let l = c.loop-entry in
    let xs = c.args.warm.now in
    let i = get_or xs l.entry-index 0 in
    elim c.if-i-lt-MAX_SEGS.branch [
      | then-i-lt-MAX_SEGS w ↦
          let power : 1 * 2 ^ (i % 8) % 256 ≡ 2 ^ (i % 8) = shl_exact 1 (i % 8) 8 (omega arith) (omega arith) ∙ omega arith in
          let stored = w.masked.ensures ∙ ap (λ (m : ℕ). masked (get_or l.mask (i / 8) 0) m 255) power in
          w.mask-is
          ∙ rw (add-one l.entry-index, l.invariant)
          (start_mask-more xs l.entry-index c.loop-entry-test.true w.masked.result w.if-i-lt-MAX_SEGS.true (rw l.invariant at stored))
      | else-i-lt-MAX_SEGS w ↦
          w.mask-is
          ∙ rw (add-one l.entry-index) (l.invariant ∙ start_mask-beyond xs l.entry-index c.loop-entry-test.true w.if-i-lt-MAX_SEGS.false)
    ]
