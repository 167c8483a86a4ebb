-- `join` meets its contract: the three checks in order, and the joint sheet.
use mathlib.Core.Path.{◌≡◌, sym, ap, ◌∙◌}
use native.Mathlib.Omega.{arith}
use lib.ListN.{length, take}
use lib.Seq.{length-take-le}
use Rattle.model.specs.Values.{value_of}
use Rattle.model.specs.declared.Sheet.{Sheet}
use Rattle.model.specs.declared.Refusal.{Refusal}
use Rattle.sheet.specs.Answers.{answer_of}
use Rattle.std.specs.Prelude.{Result, Ok}
use Rattle.joint.specs.Joint.{Joins}
use Rattle.joint.proofs.Joining.{join-joined}
use Rattle.join.proofs.Held.{sheet-held, entries-within, heads-fit}
use Rattle.join.proofs.Told.{told-differs, told-both, told-many, told-joins}
use Rattle.join.proofs.join.Goals.{Else-p-q-gt-MAX_SEGS, Start}
use Rattle.join.proofs.join.Goals as goal

-- as many entries are taken as there are steps
module _ (s : Start) where
  steps-taken : (length (take s.args.first.steps s.args.first.touches) ≡ s.args.first.steps)
      × (length (take s.args.second.steps s.args.second.touches) ≡ s.args.second.steps)
  steps-taken = (
    length-take-le _ _ (omega (arith, s.requires.0.steps_within, s.requires.0.touches_whole)),
    length-take-le _ _ (omega (arith, s.requires.1.steps_within, s.requires.1.touches_whole)),
  )

joins : (c : Else-p-q-gt-MAX_SEGS) → Joins (value_of c.args.first) (value_of c.args.second)
joins c =
    told-joins c.args.first c.args.second c.requires.0 c.requires.1 _ c.same_heads.ensures c.if-not-same_heads.false _
    c.both_touch.ensures c.if-both_touch.false c.if-p-q-gt-MAX_SEGS.false

pub returns-then-not-same_heads : goal.returns-then-not-same_heads
unfolding answer_of
returns-then-not-same_heads c =
    ap answer_of
    (sym (told-differs c.args.first c.args.second c.requires.0 c.requires.1 _ c.same_heads.ensures c.if-not-same_heads.true))

pub returns-then-both_touch : goal.returns-then-both_touch
unfolding answer_of
returns-then-both_touch c =
    ap answer_of
    (sym
    (told-both c.args.first c.args.second c.requires.0 c.requires.1 _ c.same_heads.ensures c.if-not-same_heads.false _
    c.both_touch.ensures c.if-both_touch.true))

pub returns-then-p-q-gt-MAX_SEGS : goal.returns-then-p-q-gt-MAX_SEGS
unfolding answer_of
returns-then-p-q-gt-MAX_SEGS c =
    ap answer_of
    (sym
    (told-many c.args.first c.args.second c.requires.0 c.requires.1 _ c.same_heads.ensures c.if-not-same_heads.false _
    c.both_touch.ensures c.if-both_touch.false c.if-p-q-gt-MAX_SEGS.true))

pub joint_sheet-requires : goal.joint_sheet-requires
joint_sheet-requires c =
    let s = (goal.at.joint_sheet-requires c).Start in (
      heads-fit c.args.first c.args.second c.requires.0 c.requires.1 (joins (goal.at.joint_sheet-requires c).Else-p-q-gt-MAX_SEGS),
      omega (arith, steps-taken s, c.requires.0.steps_within),
      omega (arith, steps-taken s, c.requires.1.steps_within),
      entries-within c.args.first c.args.second c.requires.0 c.requires.1,
    )

pub returns : goal.returns
unfolding answer_of
returns c =
    ap {B = Result Sheet Refusal} (λ (x : Sheet). Ok x)
    (c.joint_sheet.ensures ∙ sheet-held c.args.first c.args.second c.requires.0 c.requires.1)
    ∙ ap answer_of (sym (join-joined (value_of c.args.first) (value_of c.args.second) (joins (goal.at.returns c).Else-p-q-gt-MAX_SEGS)))
