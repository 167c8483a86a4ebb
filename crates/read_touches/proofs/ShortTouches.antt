-- Laws of a touch's line whose numbers are read up to the bytes after their digits.
use Prim.Native.Nat.{ℕ, suc, ◌+◌, ◌≤◌, ◌<◌}
use mathlib.Core.Path.{◌≡◌, refl, sym, ap, ◌∙◌}
use mathlib.Core.Bool.{Bool, true, false, cond}
use mathlib.Core.List.{List, [], ◌∷◌, ◌++◌, append_assoc}
use mathlib.Core.Option.{some}
use native.Mathlib.Numerals.{add-one}
use native.Mathlib.Omega.{arith}
use lib.ListN.{length, get_or, take, drop, take-append-drop}
use lib.Seq.{drop-cons, drop-drop}
use Rattle.decimal.specs.Decimal.{is_number, value, written}
use Rattle.decimal.proofs.Written.{written_of}
use Rattle.text.specs.Keys.{line_feed, at_sign, mark_letter, ref_key}
use Rattle.sheet.specs.Lines.{read, same_bytes}
use Rattle.sheet.specs.Touches.{Touch, touch_line, step_word, touch_text}
use Rattle.scan.proofs.Tails.{tail, tail-is}
use Rattle.sheet.proofs.Touches.{touch_reads}
use Rattle.sheet.proofs.Words.{same-equal}

-- a number of k digits and the byte after it
pub number-then : (s : List ℕ) (mark k v : ℕ) → is_number (take k s) ≡ true → v ≡ value (take k s) → k < length s → get_or s k 0 ≡ mark
    → s ≡ written v ++ (mark ∷ drop (k + 1) s)
number-then s mark k v num am h there =
    let d : drop k s ≡ mark ∷ drop (k + 1) s =
    drop-cons s k 0 h ∙ (ap (λ b. b ∷ drop (suc k) s) there ∙ ap (λ i. mark ∷ drop i s) (sym (add-one k))) in
    let w : written v ≡ take k s = ap written am ∙ written_of (take k s) num in
    sym (take-append-drop k s) ∙ (ap (λ x. take k s ++ x) d ∙ ap (λ x. x ++ (mark ∷ drop (k + 1) s)) (sym w))

-- a step of k digits, and a line feed after it
pub step-feed : (s : List ℕ) (k v : ℕ) → is_number (take k s) ≡ true → v ≡ value (take k s) → k < length s → get_or s k 0 ≡ line_feed
    → s ≡ step_word false v ++ (line_feed ∷ drop (k + 1) s)
step-feed s k v = number-then s line_feed k v

-- a byte that is no line feed and may stand before it is the letter w, in a form that has it
pub letter-there : (letters : Bool) (b r : ℕ) → r ≡ cond letters mark_letter line_feed → (b ≡ line_feed → ⊥) → b ≡ r
    → (letters ≡ true) × (b ≡ mark_letter)
letter-there true b r e n f = (refl, f ∙ e)
letter-there false b r e n f = absurd (n (f ∙ e))

-- that letter after the step, and then the line feed
pub step-letter-feed : (s : List ℕ) (k v : ℕ) → is_number (take k s) ≡ true → v ≡ value (take k s) → k + 1 < length s
    → get_or s k 0 ≡ mark_letter → get_or s (k + 1) 0 ≡ line_feed → s ≡ step_word true v ++ (line_feed ∷ drop (k + 1 + 1) s)
step-letter-feed s k v num am h there feed =
    let d : drop (k + 1) s ≡ line_feed ∷ drop (k + 1 + 1) s =
    drop-cons s (k + 1) 0 h ∙ (ap (λ b. b ∷ drop (suc (k + 1)) s) feed ∙ ap (λ i. line_feed ∷ drop i s) (sym (add-one (k + 1)))) in
    number-then s mark_letter k v num am (omega arith) there
    ∙ (ap (λ x. written v ++ (mark_letter ∷ x)) d ∙ sym (append_assoc (written v) (mark_letter ∷ []) (line_feed ∷ drop (k + 1 + 1) s)))

-- the key, a number, "@", a step and a line feed are the line of a touch
pub short-touch : (letters : Bool) (segs steps before : ℕ) (s : List ℕ) (k m x y : ℕ) (b : Bool) → same_bytes (take 4 s) ref_key ≡ true
    → tail s 4 ≡ written x ++ (at_sign ∷ drop (k + 1) (tail s 4)) → (b ≡ true → letters ≡ true)
    → tail s (4 + k + 1) ≡ step_word b y ++ (line_feed ∷ drop m (tail s (4 + k + 1))) → x < segs → before < y → y ≤ steps
    → touch_line letters segs steps before s ≡ read (record { segment = x; step = y; modifies = b }) (drop (4 + k + 1 + m) s)
short-touch letters segs steps before s k m x y b key e g f below above within =
    let a : Touch = record { segment = x; step = y; modifies = b } in
    let p : 4 + (k + 1) ≡ 4 + k + 1 = omega arith in
    let rest = drop (4 + k + 1 + m) s in
    let f' : drop (4 + k + 1) s ≡ step_word b y ++ (line_feed ∷ rest) = rw (tail-is s (4 + k + 1), drop-drop m (4 + k + 1) s) at f in
    let e' : drop 4 s ≡ written x ++ (at_sign ∷ drop (4 + k + 1) s) = rw (tail-is s 4, drop-drop (k + 1) 4 s, p) at e in
    let t : s ≡ touch_text a ++ rest =
    sym (take-append-drop 4 s) ∙ (ap (λ z. z ++ drop 4 s) (same-equal (take 4 s) ref_key key)
    ∙ (ap (λ z. ref_key ++ z) (e' ∙ ap (λ z. written x ++ (at_sign ∷ z)) f') ∙ simp append_assoc)) in
    ap (touch_line letters segs steps before) t
    ∙ (touch_reads letters segs steps (some (record { segment = 0; step = before; modifies = false }))).forth a rest
    (record { segment_below = below; step_above = above; step_within = within; letter = g })
