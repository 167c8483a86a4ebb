-- What joining comes to: each refusal, and that an accepted joint sheet is that of two sheets that join, and valid.
use Prim.Native.Nat.{ℕ, ◌+◌, ◌≤◌}
use mathlib.Core.Path.{◌≡◌, refl, ap, subst}
use mathlib.Core.Bool.{Bool, true, false, cond}
use mathlib.Core.List.{[]}
use native.Mathlib.Omega.{arith}
use lib.Dec.{leb}
use lib.ListN.{length}
use Rattle.model.specs.Sheets.{SheetValue, Valid, form_bytes, most_segs}
use Rattle.model.specs.declared.Refusal.TheVariants.{HeadsDiffer, BothTouch, TooManySegments}
use Rattle.sheet.specs.Accepting.{on_sheet}
use Rattle.sheet.specs.Reading.{Outcome, accepted, rejected}
use Rattle.sheet.specs.Writing.{sheet_text}
use Rattle.sheet.proofs.Lengths.{text-within}
use Rattle.joint.specs.Joining.{join_counted, join_apart, join_of}
use Rattle.joint.specs.Joint.{same_heads, both_touch, joint_steps, joined, Joins}
use Rattle.joint.proofs.Joined.{joined-valid}

module _ (v w : SheetValue) where
  -- 20, 21, 22, or the joint sheet
  pub join-differs : same_heads v.head w.head ≡ false → join_of v w ≡ rejected HeadsDiffer
  unfolding join_of
  join-differs e = rw e

  pub join-both : same_heads v.head w.head ≡ true → both_touch v.entries w.entries (joint_steps v w) ≡ true
      → join_of v w ≡ rejected BothTouch
  unfolding join_of
  join-both e f = rw (e, f)

  pub join-many : same_heads v.head w.head ≡ true → both_touch v.entries w.entries (joint_steps v w) ≡ false
      → leb (length v.head.sizes + length w.head.sizes) most_segs ≡ false → join_of v w ≡ rejected TooManySegments
  unfolding join_of
  join-many e f g = rw (e, f, g)

  pub join-joined : Joins v w → join_of v w ≡ accepted (joined v w)
  unfolding join_of
  join-joined joins = rw (joins.same, joins.apart, joins.few)

  -- an accepted sheet is the joint sheet of two sheets that join
  pub join-accepted : (u : SheetValue) → join_of v w ≡ accepted u → Joins v w × (joined v w ≡ u)
  unfolding join_of
  join-accepted u = heads (same_heads v.head w.head) refl
    where
      segments : (b : Bool) → leb (length v.head.sizes + length w.head.sizes) most_segs ≡ b → same_heads v.head w.head ≡ true
          → both_touch v.entries w.entries (joint_steps v w) ≡ false
          → cond b (accepted (joined v w)) (rejected TooManySegments) ≡ accepted u → Joins v w × (joined v w ≡ u)
      segments true few same apart is = (record { same = same; apart = apart; few = few }, cc)
      segments false few same apart is = absurd (let z : ◌≡◌ {A = ℕ} 0 1 = cc in omega arith)

      steps : (b : Bool) → both_touch v.entries w.entries (joint_steps v w) ≡ b → same_heads v.head w.head ≡ true
          → cond b (rejected BothTouch) (join_counted v w) ≡ accepted u → Joins v w × (joined v w ≡ u)
      steps true apart same is = absurd (let z : ◌≡◌ {A = ℕ} 0 1 = cc in omega arith)
      steps false apart same is = segments (leb (length v.head.sizes + length w.head.sizes) most_segs) refl same apart is

      heads : (b : Bool) → same_heads v.head w.head ≡ b → cond b (join_apart v w) (rejected HeadsDiffer) ≡ accepted u
          → Joins v w × (joined v w ≡ u)
      heads true same is = steps (both_touch v.entries w.entries (joint_steps v w)) refl same is
      heads false same is = absurd (let z : ◌≡◌ {A = ℕ} 0 1 = cc in omega arith)

  -- and it is valid
  pub accepted-valid : Valid v → Valid w → (u : SheetValue) → join_of v w ≡ accepted u → Valid u
  accepted-valid first second u e = let found = join-accepted u e in subst Valid found.1 (joined-valid v w first second found.0)

  -- so its text is no longer than that of a sheet of form 3 may be
  pub accepted-within : Valid v → Valid w → length (on_sheet (join_of v w) (λ _. []) sheet_text) ≤ form_bytes 3
  unfolding joined
  accepted-within first second = go (join_of v w) refl
    where
      go : (o : Outcome) → join_of v w ≡ o → length (on_sheet o (λ _. []) sheet_text) ≤ form_bytes 3
      go (accepted u) e =
          let three : 3 ≡ u.form = ap (λ (x : SheetValue). x.form) (join-accepted u e).1 in
          omega (arith, text-within u (accepted-valid first second u e), ap form_bytes three)
      go (rejected why) e = omega arith
