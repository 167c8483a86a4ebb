-- Laws of a text put into a place: nothing, one byte, one text after another, and a loop that puts part after part.
use Prim.Native.Nat.{ℕ, ◌+◌, ◌≤◌, ◌<◌}
use mathlib.Core.Path.{◌≡◌, refl, sym, ap, ◌∙◌}
use mathlib.Core.List.{List, [], ◌∷◌, ◌++◌, append_assoc}
use native.Mathlib.Nat.{add-zero, add_assoc}
use native.Mathlib.Numerals.{add-one}
use native.Mathlib.Omega.{arith}
use borrow.Rule.Slice.PartMut.{put_mid}
use lib.ListN.{length, take, drop, set, length-append, length-take, length-drop, take-append-drop}
use lib.Seq.{length-take-le, take_at, drop-append-add, drop-drop, set_split}
use Rattle.text.specs.inner.Puts.{put_at, Put}

-- a place keeps its length
pub put-length : (at : ℕ) (t p : List ℕ) → at + length t ≤ length p → length (put_at at t p) ≡ length p
unfolding put_at
put-length at t p h = simp (length-append, length-take, length-drop) (omega arith)

-- what stands after a first part of n bytes, and m bytes more
after_first_lem : (q d : List ℕ) (n m : ℕ) → length q ≡ n → drop (n + m) (q ++ d) ≡ drop m d
after_first_lem q d n m e = rw (← e) (drop-append-add q d m)

-- one text put after another is the two put together
put-put : (at : ℕ) (x y p : List ℕ) → at + length x ≤ length p → put_at (at + length x) y (put_at at x p) ≡ put_at at (x ++ y) p
unfolding put_at
put-put at x y p h =
    let n = at + length x in
    let q = take at p ++ x in
    let l : length q ≡ n = rw (length-append, length-take-le at p (omega arith)) in
    let a : put_at n y (put_at at x p) ≡ put_at n y (q ++ drop n p) = ap (put_at n y) (sym (append_assoc (take at p) x (drop n p))) in
    let b : put_at n y (q ++ drop n p) ≡ q ++ (y ++ drop (n + length y) p) =
    rw (take_at q (drop n p) n l, after_first_lem q (drop n p) n (length y) l, drop-drop) in
    a ∙ (b ∙ simp (append_assoc, length-append, add_assoc))

-- nothing
pub put-nothing : (at : ℕ) (p : List ℕ) → at ≤ length p → Put [] at p at p
unfolding put_at
put-nothing at p h = record { fits = omega arith; ends = omega arith; holds = rw add-zero (sym (take-append-drop at p)) }

-- one byte
pub put_byte : (b at : ℕ) (p : List ℕ) → at < length p → Put (b ∷ []) at p (at + 1) (set p at b)
unfolding put_at
put_byte b at p h = record { fits = omega arith; ends = refl; holds = rw add-one (set_split p at b h) }

-- what `decimal::write` says of the place with the digits
pub put_of : (text : List ℕ) (at : ℕ) (place : List ℕ) {end : ℕ} {after : List ℕ} → at + length text ≤ length place → end ≡ at + length text
    → after ≡ take at place ++ (text ++ drop (at + length text) place) → Put text at place end after
unfolding put_at
put_of text at place f e h = record { fits = f; ends = e; holds = h }

-- the same text in another form
pub put_same : {x y p r : List ℕ} {at e : ℕ} → x ≡ y → Put x at p e r → Put y at p e r
put_same h f = rw h at f

-- the place keeps its length
pub put_keeps : {x p q : List ℕ} {at e : ℕ} → Put x at p e q → length q ≡ length p
put_keeps {x} {p} {q} {at} f = rw f.holds (put-length at x p f.fits)

-- one text and then another after it
pub put_then : {x y p q r : List ℕ} {at m e : ℕ} → Put x at p m q → Put y m q e r → Put (x ++ y) at p e r
put_then {x} {y} {p} {q} {r} {at} {m} {e} f g =
    let l = put_keeps f in
    record {
      fits = rw length-append (omega (arith, f.ends, g.fits));
      ends = rw length-append (omega (arith, f.ends, g.ends));
      holds = g.holds ∙ rw (f.holds, f.ends) (put-put at x y p f.fits);
    }

-- a text copied into the part of the place that it fills
pub put_copied : (text : List ℕ) (at : ℕ) (place : List ℕ) {k end : ℕ} {part : List ℕ} → k ≡ length text → end ≡ at + length text
    → at + length text ≤ length place → part ≡ text → Put text at place end (put_mid at k place part)
unfolding put_at
put_copied text at place e g f h = record { fits = f; ends = g; holds = rw (h, e, drop-drop) }

-- ---- part after part

-- what holds where a loop has put i parts of n: their text is put from the index at on
pub record Filled (i n : ℕ) (text : List ℕ) (at : ℕ) (place : List ℕ) (next : ℕ) (out : List ℕ) : Type 0 where
  pub within : i ≤ n
  pub same_length : length out ≡ length place
  pub put : Put text at place next out

-- before the first
pub filled_start : (n at : ℕ) (p : List ℕ) → at ≤ length p → Filled 0 n [] at p at p
filled_start n at p h = record { within = omega arith; same_length = refl; put = put-nothing at p h }

-- one part more
pub filled_next : {i n at m e : ℕ} {x y z p q r : List ℕ} → Filled i n x at p m q → i < n → Put y m q e r → z ≡ x ++ y
    → Filled (i + 1) n z at p e r
filled_next f h g s =
    let t = put_same (sym s) (put_then f.put g) in
    record { within = omega arith; same_length = put_keeps t; put = t }
