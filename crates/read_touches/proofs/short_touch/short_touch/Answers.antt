-- `read_touches::short_touch::short_touch` meets its contract: the first number reaches up to "@", the step up to the line feed.
use Prim.Native.Nat.{◌+◌, ◌≤◌}
use mathlib.Core.Path.{◌≡◌, sym}
use mathlib.Core.Bool.{true}
use native.Mathlib.Omega.{arith}
use lib.ListN.{length, take}
use Rattle.text.specs.Keys.{ref_key}
use Rattle.sheet.specs.Lines.{same_bytes}
use Rattle.scan.proofs.KeyedLines.{long-key}
use Rattle.read_touches.proofs.ShortTouches.{short-touch}
use Rattle.scan.proofs.Tails.{tail-place}
use Rattle.read_touches.proofs.short_touch.short_touch.Goals.{Else-not-has_key, In_ok-first, In_ok-second}
use Rattle.read_touches.proofs.short_touch.short_touch.Goals as goal

-- the line starts with its key
keyed : (c : Else-not-has_key) → same_bytes (take 4 c.args.s.now) ref_key ≡ true
keyed c = sym c.if-not-has_key.ensures

long : (c : Else-not-has_key) → 4 ≤ length c.args.s.now
long c = long-key c.args.s.now ref_key (keyed c)

-- the first number and its "@" lie within the bytes
first-within : (c : In_ok-first) → 4 + c.in_ok-first.first.length + 1 ≤ length c.args.s.now
first-within c =
    let l : 4 ≤ length c.args.s.now = long-key c.args.s.now ref_key (sym c.if-not-has_key.ensures) in
    omega (arith, tail-place c.args.s.now 4 (c.in_ok-first.first.length + 1) l (omega (arith, c.in_ok-first.ensures.within)))

-- and so do the step and what follows it up to the line feed
second-within : (c : In_ok-second) → 4 + c.in_ok-first.first.length + 1 + c.in_ok-second.second.next ≤ length c.args.s.now
second-within c =
    let l : 4 ≤ length c.args.s.now = long-key c.args.s.now ref_key (sym c.if-not-has_key.ensures) in
    let f = tail-place c.args.s.now 4 (c.in_ok-first.first.length + 1) l (omega (arith, c.in_ok-first.ensures.within)) in
    tail-place c.args.s.now _ _ (omega arith) c.in_ok-second.ensures.within

pub slice_bounds-number_before-count : goal.slice_bounds-number_before-count
slice_bounds-number_before-count c = long c

pub slice_bounds-number_before-start : goal.slice_bounds-number_before-start
slice_bounds-number_before-start c = long c

pub returns : goal.returns
returns c =
    let t = c.in_ok-second.ensures in
    record {
      same =
          sym (short-touch _ _ _ _ _ _ _ _ _ _ (keyed (goal.at.returns c).Else-not-has_key) c.in_ok-first.ensures.same t.letter t.same
          c.if-segs-segment.false c.if-step-before.false c.if-steps-step.false);
      within = omega (arith, second-within (goal.at.returns c).In_ok-second);
    }
