-- Laws of blanks, fields and lines: how long they are, and one blank or one line more.
use Prim.Native.Nat.{ℕ, ◌+◌, ◌-◌, ◌≤◌, ◌<◌}
use mathlib.Core.Path.{◌≡◌, refl, ◌∙◌}
use mathlib.Core.List.{List, [], ◌∷◌, ◌++◌, append_assoc, append-nil}
use native.Mathlib.Nat.{add_assoc, not-suc-le-zero}
use native.Mathlib.Omega.{arith}
use lib.ListN.{length, set, replicate, length-append, length-replicate, replicate-append-replicate}
use Rattle.model.specs.declared.Kind.{Kind}
use Rattle.model.specs.declared.RowFigures.{RowFigures}
use Rattle.text.specs.Keys.{line_feed}
use Rattle.text.specs.inner.Puts.{Put}
use Rattle.text.proofs.Putting.{put_then, put_byte}
use Rattle.page.specs.Page.{line_width, blank, blanks, field, spaced, columns, page_line, page_lines, second_page, concatenated}

-- one element more of a list of equal ones
pub replicate_next : {A : Type 0} (n : ℕ) (a : A) → replicate n a ++ (a ∷ []) ≡ replicate (n + 1) a
replicate_next n a = replicate-append-replicate n 1 a

-- one blank more
pub blanks-next : (i at : ℕ) (p q : List ℕ) → at + i < length q → Put (blanks i) at p (at + i) q
    → Put (blanks (i + 1)) at p (at + (i + 1)) (set q (at + i) blank)
blanks-next i at p q h f = rw (← replicate_next i blank, ← add_assoc) (put_then f (put_byte blank (at + i) q h))

-- blanks before a field, and the blanks of the field, are one run of blanks
pub aligned : (gap width w : ℕ) (t : List ℕ) → w ≡ length t → blanks (gap + (width - w)) ++ t ≡ blanks gap ++ field width t
aligned gap width w t e = rw (e, ← replicate-append-replicate gap (width - length t) blank, append_assoc)

-- a field that fits has the width of its column
pub field-length : (width : ℕ) (text : List ℕ) → length text ≤ width → length (field width text) ≡ width
field-length width text h = rw (length-append, length-replicate) (omega arith)

-- and two more with the blanks before it
pub spaced-length : (width : ℕ) (text : List ℕ) → length text ≤ width → length (spaced width text) ≡ 2 + width
spaced-length width text h = rw (length-append (blanks 2) (field width text), field-length width text h) refl

-- six fields that fit have 68 characters
pub columns-length : (h d misses volume load mean : List ℕ) → length h ≤ 7 → length d ≤ 7 → length misses ≤ 8 → length volume ≤ 12
    → length load ≤ 12 → length mean ≤ 12 → length (columns h d misses volume load mean) ≡ 68
unfolding columns
columns-length h d misses volume load mean a b c e f g =
    six (field 7 h) (spaced 7 d) (spaced 8 misses) (spaced 12 volume) (spaced 12 load) (spaced 12 mean)
    ∙ rw (
      field-length 7 h a,
      spaced-length 7 d b,
      spaced-length 8 misses c,
      spaced-length 12 volume e,
      spaced-length 12 load f,
      spaced-length 12 mean g,
    )
  where
    six : (u v w x y z : List ℕ) → length (u ++ (v ++ (w ++ (x ++ (y ++ z)))))
        ≡ length u + (length v + (length w + (length x + (length y + length z))))
    six u v w x y z = simp length-append

-- a line has 72 characters and a line feed
pub line-length : (text : List ℕ) → length text ≤ line_width → length (page_line text) ≡ 73
unfolding page_line
line-length text h =
    let n = line_width - length text in
    rw (length-append text (blanks n ++ (line_feed ∷ [])), length-append (blanks n), length-replicate) (omega arith)

-- lines one after another, in two parts
pub concatenated-append : (k l : List (List ℕ)) → concatenated (k ++ l) ≡ concatenated k ++ concatenated l
unfolding concatenated
concatenated-append [] l = refl
concatenated-append (x ∷ k) l = rw (concatenated-append k l, append_assoc)

-- one line more
pub concatenated-next : (k : List (List ℕ)) (x : List ℕ) → concatenated (k ++ (x ∷ [])) ≡ concatenated k ++ x
unfolding concatenated
concatenated-next k x = rw (concatenated-append k (x ∷ []), append-nil)

-- a second page where there are rows for it
pub second-some : (kind : Kind) (a : ℕ) (fs : List RowFigures) → 0 < length fs → second_page kind a fs ≡ page_lines kind a fs
unfolding second_page
second-some kind a [] h = absurd (not-suc-le-zero h)
second-some kind a (f ∷ fs) h = refl
