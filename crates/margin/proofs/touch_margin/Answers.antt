-- `margin::touch_margin` meets its contract: a first touch is refused, and the costs of a reuse fit.
use Rattle.std.specs.Prelude.{Some, Ok}
use Prim.Native.Nat.{ℕ, ◌^◌, ◌<◌}
use mathlib.Core.Path.{◌≡◌, refl, sym, ap, ◌∙◌}
use native.Mathlib.Omega.{arith}
use lib.ListN.{get_or}
use mir.Syntax.{w64}
use mir.ValLaws.{to_z-of_z}
use Rattle.std.proofs.lemmas.Result.{err_from_is_err_and}
use Rattle.model.specs.Sheets.{run_of}
use Rattle.model.specs.Traces.{Trace, entry, unreferenced}
use Rattle.model.proofs.Bounds.{retention_within, swap_within}
use Rattle.model.proofs.Touches.{entry-ref}
use Rattle.margin.specs.inner.Times.{time_of}
use Rattle.margin.proofs.MarginResults.{ok-some, err-none}
use Rattle.margin.proofs.TouchMargins.{priced-room, first-touch, reuse-touch}
use Rattle.margin.proofs.touch_margin.Goals.{After-retention_cost, After-swap_cost, In_ok-time}
use Rattle.margin.proofs.touch_margin.Goals.{After-unreferenced_time-before, Start}
use Rattle.margin.proofs.touch_margin.Goals as goal

-- the run at hand, the touched segment and its size
abbrev Run : Start → Trace
Run s = run_of s.args.kind s.args.a s.args.sizes.now s.args.warm.now s.args.refs.now

abbrev Segment : Start → ℕ
Segment s = get_or s.args.refs.now s.args.t 0

abbrev Size : Start → ℕ
Size s = get_or s.args.sizes.now (Segment s) 0

here : (s : Start) → entry (Run s) s.args.t ≡ Segment s
here s = entry-ref (Run s) s.args.t s.requires.t_in_bounds.0

time_is : (u : After-unreferenced_time-before) → u.unreferenced_time-before.result
    ≡ time_of (unreferenced (run_of u.args.kind u.args.a u.args.sizes.now u.args.warm.now u.args.refs.now) u.args.t
    (get_or u.args.refs.now u.args.t 0))
time_is u = u.unreferenced_time-before.ensures (run_of u.args.kind u.args.a u.args.sizes.now u.args.warm.now u.args.refs.now) refl
    u.requires.t_in_bounds.1 (sym u.is_warm.ensures)

-- a reuse has a time
reuse_is : (c : In_ok-time) → Some c.in_ok-time.time
    ≡ time_of (unreferenced (run_of c.args.kind c.args.a c.args.sizes.now c.args.warm.now c.args.refs.now) c.args.t
    (get_or c.args.refs.now c.args.t 0))
reuse_is c =
    sym (ok-some _ _ _ (sym c.ok_or.ensures.value ∙ c.in_ok-time.was))
    ∙ c.unreferenced_time-before.ensures (run_of c.args.kind c.args.a c.args.sizes.now c.args.warm.now c.args.refs.now) refl
    c.requires.t_in_bounds.1 (sym c.is_warm.ensures)

-- the size is a 16-bit number, and neither cost exceeds what may be priced
retention-room : (c : After-retention_cost) → c.retention_cost.result.0 < 2 ^ 32
retention-room c =
    let size_room' : (get_or c.args.sizes.now (get_or c.args.refs.now c.args.t 0) 0) < 2 ^
    16 = omega (arith, c.type_inv.sizes (get_or c.args.refs.now c.args.t 0)) in
    let k = c.in_ok-time.time in
    rw c.retention_cost.ensures
    (retention_within c.args.kind (get_or c.args.sizes.now (get_or c.args.refs.now c.args.t 0) 0) k (size_room')
    (omega arith))

swap-room : (c : After-swap_cost) → c.swap_cost.result.0 < 2 ^ 32
swap-room c =
    let size_room' : (get_or c.args.sizes.now (get_or c.args.refs.now c.args.t 0) 0) < 2 ^
    16 = omega (arith, c.type_inv.sizes (get_or c.args.refs.now c.args.t 0)) in
    rw c.swap_cost.ensures (swap_within c.args.a (get_or c.args.sizes.now (get_or c.args.refs.now c.args.t 0) 0) (omega (arith, c.ranges))
    (size_room'))

pub returns-in_err-time : goal.returns-in_err-time
returns-in_err-time c v n run row =
    let was = err-none _ _ _ (sym c.ok_or.ensures.value ∙ c.in_err-time.was) in
    let p = err_from_is_err_and c.from_residual.result c.from_residual.ensures.1 in
    rw (p.1, p.2, was.1)
    (sym (first-touch (run_of c.args.kind c.args.a c.args.sizes.now c.args.warm.now c.args.refs.now) _ _
    (here (goal.at.returns-in_err-time c).Start) _ v n run row
    (sym was.0 ∙ time_is (goal.at.returns-in_err-time c).After-unreferenced_time-before)))

pub margin-requires : goal.margin-requires
margin-requires c =
    let retained : c.priced-retained.result.0 < 2 ^ 62 =
    rw c.priced-retained.ensures (priced-room c.args.row.d _ (omega (arith, c.ranges))
    (retention-room (goal.at.margin-requires c).After-retention_cost)) in
    let swapped : c.priced-swapped.result.0 < 2 ^ 62 =
    rw c.priced-swapped.ensures (priced-room c.args.row.h _ (omega (arith, c.ranges))
    (swap-room (goal.at.margin-requires c).After-swap_cost)) in
    omega arith

pub returns : goal.returns
returns c v n run row =
    ap (λ m. Ok m) (to_z-of_z w64 _ (record { sfits = c.margin.type_inv }) ∙ c.margin.ensures)
    ∙ sym (reuse-touch (run_of c.args.kind c.args.a c.args.sizes.now c.args.warm.now c.args.refs.now) _ _ (here (goal.at.returns c).Start)
    _ v n run row _ _ _ _ _ (reuse_is (goal.at.returns c).In_ok-time) c.retention_cost.ensures
    c.swap_cost.ensures c.priced-retained.ensures c.priced-swapped.ensures)

pub priced-retained-requires : goal.priced-retained-requires
priced-retained-requires c = omega (arith, retention-room c)

pub priced-swapped-requires : goal.priced-swapped-requires
priced-swapped-requires c = omega (arith, swap-room c)
