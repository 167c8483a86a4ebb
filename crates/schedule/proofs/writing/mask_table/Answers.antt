-- `mask_table` meets its contract: after i turns the masks of the segments below i are in the table. The measure is what is left of 256.
use Prim.Native.Nat.{◌*◌, ◌%◌, ◌^◌}
use mathlib.Core.Path.{◌≡◌, sym, ◌∙◌}
use native.Mathlib.Omega.{arith}
use native.Mathlib.Numerals.{add-one}
use lib.Pow.{shl_exact}
use Rattle.schedule.proofs.Masks.{masks_below-start, masks_below-step, masks_below-end}
use Rattle.schedule.proofs.writing.mask_table.Goals as goal

pub loop-i-init : goal.loop-i-init
loop-i-init c = (omega arith, sym masks_below-start)

pub loop-i-preserved : goal.loop-i-preserved
loop-i-preserved c =
    let i = c.loop-i.i in
    let power : 1 * 2 ^ (i % 8) % 256 ≡ 2 ^ (i % 8) = shl_exact 1 (i % 8) 8 (omega arith) (omega arith) ∙ omega arith in
    (omega arith, rw (c.loop-i.invariant.1, power, add-one i) (masks_below-step i c.loop-i-test.true))

pub returns : goal.returns
returns c =
    let all : c.loop-i.i ≡ 256 = omega arith in
    c.loop-i.invariant.1 ∙ (rw all masks_below-end)
