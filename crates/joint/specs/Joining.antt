-- What joining two sheets comes to: the joint sheet, or refusal 20, 21 or 22, in this order.
use Rattle.std.specs.Prelude.{◌+◌, cond, length, leb}
use Rattle.model.specs.Sheets.{SheetValue, most_segs}
use Rattle.model.specs.declared.Refusal.TheVariants.{HeadsDiffer, BothTouch, TooManySegments}
use Rattle.sheet.specs.Reading.{Outcome, accepted, rejected}
use Rattle.joint.specs.Joint.{same_heads, both_touch, joint_steps, joined}

-- 22 where there are more than 256 segments together
abbrev pub join_counted : SheetValue → SheetValue → Outcome
join_counted v w = cond (leb (length v.head.sizes + length w.head.sizes) most_segs) (accepted (joined v w)) (rejected TooManySegments)

-- 21, before it, where both touch in one step
abbrev pub join_apart : SheetValue → SheetValue → Outcome
join_apart v w = cond (both_touch v.entries w.entries (joint_steps v w)) (rejected BothTouch) (join_counted v w)

-- 20, before all, where kind, a or a row line differs
unfoldable pub join_of : SheetValue → SheetValue → Outcome
join_of v w = cond (same_heads v.head w.head) (join_apart v w) (rejected HeadsDiffer)
