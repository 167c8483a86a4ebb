-- `c_lists::recorder_list::file` meets its contract: where the sums leave room the touch is added.
use Prim.Native.Nat.{◌-◌, ◌^◌}
use native.Mathlib.Omega.{arith}
use Rattle.model.proofs.Bounds.{unit-within}
use Rattle.std.proofs.lemmas.Bool.{iff_false}
use Rattle.c_lists.proofs.InPlace.{filed-is}
use Rattle.c_lists.proofs.recorder_list.file.Goals as goal

pub add_touch-requires : goal.add_touch-requires
add_touch-requires c =
    let room = c.has_room.ensures.0 c.if-has_room.true in
    record { within = omega (arith, room.sums); limited = c.requires }

pub overflow_add-list : goal.overflow_add-list
overflow_add-list c =
    let room = c.has_room.ensures.0 c.if-has_room.true in
    let small =
    unit-within c.kind_of.result c.args.x.size (2 ^ 16 - 1) (omega arith) (omega (arith, c.requires.size_within)) in
    omega (arith, room.cost_room, c.unit_cost-unit.ensures, small)

pub overflow_add-list-then-has_room : goal.overflow_add-list-then-has_room
overflow_add-list-then-has_room c =
    let room = c.has_room.ensures.0 c.if-has_room.true in
    omega (arith, room.volume_room, c.requires.size_within)

pub returns-then-has_room : goal.returns-then-has_room
returns-then-has_room c room =
    rw c.from.ensures
    (filed-is c.args.list.now c.args.x _ _ _ _ _ c.kind_of.ensures (rw c.bucket_place-at.ensures at c.bucket_at-b.ensures)
    c.add_touch.ensures c.unit_cost-unit.ensures
    (rw c.bucket_place-at.ensures at c.store_bucket.ensures))

pub returns-else-has_room : goal.returns-else-has_room
returns-else-has_room c room =
    absurd (iff_false c.has_room.ensures c.if-has_room.false (rw (c.bucket_at-b.ensures, c.bucket_place-at.ensures) room))
