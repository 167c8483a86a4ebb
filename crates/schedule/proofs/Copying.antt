-- The loop that writes a step: it copies the step with one segment held into the place, and the step with that segment held or not
-- over the step itself, byte by byte.
use Prim.Native.Nat.{ℕ, ◌+◌, ◌*◌, ◌≤◌, ◌<◌}
use mathlib.Core.Path.{◌≡◌, sym, ap, subst, ◌∙◌}
use mathlib.Core.List.{List, append-nil}
use native.Mathlib.Omega.{arith}
use native.Mathlib.Nat.{add-zero, zero-add}
use native.Mathlib.Numerals.{add-one}
use lib.ListN.{length, get_or, set, drop_of_length-le}
use lib.Seq.{paste, paste-suc, drop-paste, get_or-drop, take_all}
use Rattle.schedule.specs.inner.Writing.{mask_table, masked, step_with}
use Rattle.schedule.proofs.Masks.{mask_table-at}
use Rattle.schedule.proofs.StepBytes.{length-step_with, step_with-at}

-- one element more is copied
paste-turn : (d s l : List ℕ) (at j x : ℕ) → l ≡ paste d at s j → x ≡ get_or s j 0 → at + j < length d → j < length s
    → set l (at + j) x ≡ paste d at s (j + 1)
paste-turn d s l at j x el ex hd hs = rw (el, ex, add-one j) (paste-suc d at s j 0 hd hs)

-- an element that was not copied over yet
paste-beyond : (d s : List ℕ) (at j : ℕ) → at ≤ length d → j ≤ length s → get_or (paste d at s j) (at + j) 0 ≡ get_or d (at + j) 0
paste-beyond d s at j hd hs =
    rw (add-zero (at + j)) at (
    sym (get_or-drop (at + j) (paste d at s j) 0 0) ∙ (ap (λ l. get_or l 0 0) (drop-paste d at s j hd hs) ∙ get_or-drop (at + j) d 0 0)
    )

-- a list of the same length is copied whole
paste-whole : (d s : List ℕ) (n : ℕ) → length d ≡ n → length s ≡ n → paste d 0 s n ≡ s
paste-whole d s n hd hs =
    let past : length d ≤ 0 + n = omega arith in
    rw (drop_of_length-le d past, take_all n s (omega arith)) (append-nil s)

-- after j bytes: `step` is the step and `d` the place where the loop begins, `next` and `out` what they are now
pub record Copied (step d : List ℕ) (i on at : ℕ) (next out : List ℕ) (j : ℕ) : Type 0 where
  pub few : j ≤ 32
  pub next_is : next ≡ paste step 0 (step_with step i on) j
  pub out_is : out ≡ paste d at (step_with step i 255) j

module _ (step d : List ℕ) (i on at : ℕ) (whole : length step ≡ 32) (room : at + 32 ≤ length d) where
  -- the byte that a turn stores, of the step with segment i as b tells
  turn_byte : (masks next out : List ℕ) (b j : ℕ) → masks ≡ mask_table → i ≤ 256 → Copied step d i on at next out j → j < 32
      → masked (get_or next j 0) (get_or masks (32 * i + j) 0) b ≡ get_or (step_with step i b) j 0
  turn_byte masks next out b j et li v lt =
      let unread : get_or next j 0 ≡ get_or step j 0 =
      rw v.next_is
      (subst (λ (n : ℕ). get_or (paste step 0 (step_with step i on) j) n 0 ≡ get_or step n 0) (zero-add j)
      (paste-beyond step (step_with step i on) 0 j (omega arith) (omega (arith, length-step_with step i on))))
      in
      rw (unread, et, mask_table-at i j li lt, step_with-at step i b j lt)

  pub copied_step : (masks next out : List ℕ) (j x y : ℕ) → masks ≡ mask_table → i ≤ 256 → Copied step d i on at next out j → j < 32
      → x ≡ masked (get_or next j 0) (get_or masks (32 * i + j) 0) 255 → y ≡ masked (get_or next j 0) (get_or masks (32 * i + j) 0) on
      → Copied step d i on at (set next j y) (set out (at + j) x) (j + 1)
  copied_step masks next out j x y et li v lt ex ey =
      record {
        few = omega arith;
        next_is =
            subst (λ (n : ℕ). set next n y ≡ paste step 0 (step_with step i on) (j + 1)) (zero-add j)
            (paste-turn step (step_with step i on) next 0 j y v.next_is (ey ∙ turn_byte masks next out on j et li v lt)
            (omega arith) (omega (arith, length-step_with step i on)));
        out_is =
            paste-turn d (step_with step i 255) out at j x v.out_is (ex ∙ turn_byte masks next out 255 j et li v lt)
            (omega arith) (omega (arith, length-step_with step i 255));
      }

  pub copied_next : (next out : List ℕ) → Copied step d i on at next out 32 → next ≡ step_with step i on
  copied_next next out v = v.next_is ∙ paste-whole step (step_with step i on) 32 whole (length-step_with step i on)
