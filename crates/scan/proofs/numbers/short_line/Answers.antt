-- `scan::numbers::short_line` meets its contract: the digits after the key reach up to the line feed.
use mathlib.Core.Path.{◌≡◌, sym}
use mathlib.Core.Bool.{true}
use native.Mathlib.Omega.{arith}
use lib.ListN.{length, take}
use Rattle.sheet.specs.Lines.{same_bytes}
use Rattle.scan.proofs.KeyedLines.{long-key}
use Rattle.scan.proofs.ShortLines.{short-number}
use Rattle.scan.proofs.numbers.short_line.Goals.{Else-not-has_key}
use Rattle.scan.proofs.numbers.short_line.Goals as goal

-- the line starts with its key
keyed : (c : Else-not-has_key) → same_bytes (take (length c.args.key.now) c.args.s.now) c.args.key.now ≡ true
keyed c = sym c.if-not-has_key.ensures

pub slice_bounds-front-count : goal.slice_bounds-front-count
slice_bounds-front-count c = let a = c.args in long-key a.s.now a.key.now (keyed c)

pub slice_bounds-front-start : goal.slice_bounds-front-start
slice_bounds-front-start c = slice_bounds-front-count c

pub returns : goal.returns
returns c =
    let n = c.in_ok-found.ensures in
    record {
      same =
          sym (short-number _ _ c.requires (keyed (goal.at.returns c).Else-not-has_key) _ _ _ _ n.within n.number n.value_is
          c.if-s-end.false c.if-s-end-ne10.false c.if-value-lo.false c.if-hi-value.false);
      within = omega arith;
    }
