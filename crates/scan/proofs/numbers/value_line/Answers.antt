-- `scan::numbers::value_line` meets its contract: the key comes first, and the value stands between it and the line feed.
use mathlib.Core.Path.{◌≡◌, sym}
use mathlib.Core.Bool.{true}
use Prim.Native.Nat.{◌+◌}
use native.Mathlib.Omega.{arith}
use lib.ListN.{length, take}
use Rattle.sheet.specs.Lines.{same_bytes}
use Rattle.scan.proofs.KeyedLines.{long-key, no_key, no-feed, between}
use Rattle.scan.proofs.Tails.{tail-place}
use Rattle.scan.proofs.numbers.value_line.Goals.{Else-not-has_key, In-Some}
use Rattle.scan.proofs.numbers.value_line.Goals as goal

-- the line starts with its key
keyed : (c : Else-not-has_key) → same_bytes (take (length c.args.key.now) c.args.s.now) c.args.key.now ≡ true
keyed c = sym c.if-not-has_key.ensures

pub returns-then-not-has_key : goal.returns-then-not-has_key
returns-then-not-has_key c = record { same = sym (no_key _ _ c.requires (sym c.if-not-has_key.ensures)); within = tt }

pub slice_bounds-find-count : goal.slice_bounds-find-count
slice_bounds-find-count c = long-key c.args.s.now c.args.key.now (keyed c)

pub returns-in-None : goal.returns-in-None
returns-in-None c =
    record { same = sym (no-feed _ _ c.requires (keyed (goal.at.returns-in-None c).Else-not-has_key) c.in-None.ensures.split); within = tt }

pub returns-in-Some : goal.returns-in-Some
returns-in-Some c =
    let k = keyed (goal.at.returns-in-Some c).Else-not-has_key in
    let e = tail-place c.args.s.now _ (c.in-Some.length + 1) (long-key c.args.s.now c.args.key.now k) (omega (arith, c.in-Some.ensures.within)) in
    record { same = sym (between _ _ c.requires k _ c.in-Some.ensures.split (omega (arith, e))); within = omega (arith, e) }

pub slice_bounds-find-start : goal.slice_bounds-find-start
slice_bounds-find-start c = slice_bounds-find-count c
