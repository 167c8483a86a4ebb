-- `write_sheet::touch_text::put_touch` meets its contract: the key is put, then the segment and "@", then the step and the letter w with
-- the line feed behind it, or the line feed alone.
use Prim.Native.Nat.{ℕ}
use mathlib.Core.Path.{◌≡◌}
use mathlib.Core.Bool.{Bool, true, false, cond}
use mathlib.Core.List.{[], ◌∷◌, ◌++◌, append_assoc}
use Rattle.decimal.specs.Decimal.{written}
use Rattle.text.specs.Keys.{line_feed, at_sign, mark_letter, ref_key}
use Rattle.sheet.specs.Touches.{touch_text}
use Rattle.text.proofs.Putting.{put_then, put_same}
use Rattle.write_sheet.proofs.touch_text.put_touch.Goals as goal

-- the line in the parts that are put, up to the byte b after the step's digits, and what follows that
module _ (x step b : ℕ) where
  marked : (m : Bool) → b ≡ cond m mark_letter line_feed → m ≡ true
      → ref_key ++ ((written x ++ (at_sign ∷ [])) ++ ((written step ++ (b ∷ [])) ++ (line_feed ∷ [])))
      ≡ touch_text (record { segment = x; step = step; modifies = m })
  marked m e f = rw (e, f) (simp append_assoc)

  plain : (m : Bool) → b ≡ cond m mark_letter line_feed → m ≡ false
      → ref_key ++ ((written x ++ (at_sign ∷ [])) ++ (written step ++ (b ∷ [])))
      ≡ touch_text (record { segment = x; step = step; modifies = m })
  plain m e f = rw (e, f) (simp append_assoc)

pub returns-then-modifies : goal.returns-then-modifies
returns-then-modifies c =
    let a = c.args in
    put_same (marked a.x a.step _ a.modifies c.step_end.ensures c.if-modifies.true)
    (put_then c.put-segment.ensures (put_then c.put_digits-second.ensures (put_then c.put_digits-end.ensures c.put.ensures)))

pub returns : goal.returns
returns c =
    let a = c.args in
    put_same (plain a.x a.step _ a.modifies c.step_end.ensures c.if-modifies.false)
    (put_then c.put-segment.ensures (put_then c.put_digits-second.ensures c.put_digits-end.ensures))
