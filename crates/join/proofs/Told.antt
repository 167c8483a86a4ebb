-- Each refusal, and that two sheets join, by what was told of the two sheets by value.
use Prim.Native.Nat.{◌+◌, ◌≤◌, ◌<◌, max}
use mathlib.Core.Path.{◌≡◌, sym, ◌∙◌}
use mathlib.Core.Bool.{Bool, true, false}
use native.Mathlib.Omega.{arith}
use borrow.Author.Tests.{le-leb, lt-leb}
use lib.ListN.{length, take}
use Rattle.model.specs.Sheets.{most_segs}
use Rattle.model.specs.Standing.{Standing}
use Rattle.model.specs.Values.{head_value_of, value_of}
use Rattle.model.specs.declared.Refusal.TheVariants.{HeadsDiffer, BothTouch, TooManySegments}
use Rattle.model.specs.declared.Sheet.{Sheet}
use Rattle.model.proofs.Standing.{segs-counted}
use Rattle.sheet.specs.Reading.{rejected}
use Rattle.joint.specs.Joining.{join_of}
use Rattle.joint.specs.Joint.{same_heads, both_touch, joint_steps, Joins}
use Rattle.joint.proofs.Joining.{join-differs, join-both, join-many}

-- by what was told of the heads, b, and of the touches, t
module _ (first second : Sheet) (p : Standing first) (q : Standing second) (b : Bool)
    (told : b ≡ same_heads (head_value_of first.head) (head_value_of second.head)) where
  heads-told : same_heads (value_of first).head (value_of second).head ≡ b
  unfolding value_of
  heads-told = sym told

  pub told-differs : b ≡ false → join_of (value_of first) (value_of second) ≡ rejected HeadsDiffer
  told-differs e = join-differs (value_of first) (value_of second) (heads-told ∙ e)

  module _ (same : b ≡ true) (t : Bool)
      (touches : let xs = take first.steps first.touches in
      let ys = take second.steps second.touches in
      t ≡ both_touch xs ys (max (length xs) (length ys))) where
    touches-told : both_touch (value_of first).entries (value_of second).entries (joint_steps (value_of first) (value_of second)) ≡ t
    unfolding value_of
    touches-told = sym touches

    pub told-both : t ≡ true → join_of (value_of first) (value_of second) ≡ rejected BothTouch
    told-both e = join-both (value_of first) (value_of second) (heads-told ∙ same) (touches-told ∙ e)

    pub told-many : t ≡ false → most_segs < first.head.segs + second.head.segs
        → join_of (value_of first) (value_of second) ≡ rejected TooManySegments
    told-many e many =
        join-many (value_of first) (value_of second) (heads-told ∙ same) (touches-told ∙ e)
        (lt-leb (length (value_of first).head.sizes + length (value_of second).head.sizes) most_segs
        (omega (arith, segs-counted first p, segs-counted second q)))

    pub told-joins : t ≡ false → first.head.segs + second.head.segs ≤ most_segs → Joins (value_of first) (value_of second)
    told-joins e few =
        record {
          same = heads-told ∙ same;
          apart = touches-told ∙ e;
          few =
              le-leb (length (value_of first).head.sizes + length (value_of second).head.sizes) most_segs
              (omega (arith, segs-counted first p, segs-counted second q));
        }
