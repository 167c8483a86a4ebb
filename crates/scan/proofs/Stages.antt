-- Laws of parts that are read one after another: what was read so far, then the next part.
use Prim.Native.Nat.{ℕ, ◌+◌, ◌≤◌}
use mathlib.Core.Path.{◌≡◌, refl, sym, ap, ◌∙◌}
use mathlib.Core.List.{List, ◌++◌}
use native.Mathlib.Omega.{arith}
use lib.ListN.{length, take, drop}
use lib.Seq.{drop-drop, length-take-le}
use Rattle.std.specs.Prelude.{Result, Ok, Err}
use Rattle.model.specs.declared.Refusal.{Refusal}
use Rattle.sheet.specs.Lines.{Parsed, read, refused, and_then}
use Rattle.sheet.specs.Order.{number_part, numbers_part}
use Rattle.sheet.specs.Parts.{counted}
use Rattle.scan.specs.inner.AtPlace.{parsed_lines, lines_next, moved_on, counted_in, list_end, list_count, LinesReads, ListReads}
use Rattle.scan.proofs.Blanks.{filled_start, front-filled, front-take}
use Rattle.scan.proofs.Tails.{tail, tail-is, tail-tail, tail-place}

-- what g makes of a part p and of what is left after it, f: where p was read up to the place next, it is what g makes of what is left
-- from there; where p was refused, it is what g makes of the refusal
module _ {A B C : Type 0} (g : Parsed B → C) (f : A → List ℕ → Parsed B) (p : Parsed A) where
  pub stage-read : (x : A) (s : List ℕ) (next : ℕ) (r : C) → r ≡ g (f x (tail s next)) → p ≡ read x (drop next s) → r ≡ g (and_then p f)
  stage-read x s next r a e = rw (e, ← (tail-is s next)) a

  pub stage-refused : (why : Refusal) (r : C) → r ≡ g (refused why) → p ≡ refused why → r ≡ g (and_then p f)
  stage-refused why r a e = rw e a

-- what was read from the place at on, as places of the whole
pub moved : {A : Type 0} (s : List ℕ) (at : ℕ) (lines : Result ℕ Refusal) (x : A)
    → parsed_lines s (moved_on at lines) x ≡ parsed_lines (tail s at) lines x
moved s at (Ok next) x = rw (tail-is s at, drop-drop next at s)
moved s at (Err why) x = refl

-- lies within it
pub moved-within : (s : List ℕ) (at : ℕ) (lines q : Result ℕ Refusal) → at ≤ length s → lines_next lines ≤ length (tail s at)
    → q ≡ moved_on at lines → lines_next q ≤ length s
moved-within s at (Ok next) q h l m = rw m (tail-place s at next h l)
moved-within s at (Err why) q h l m = rw m (omega arith)

-- a part p that was read up to the place at, and y that was read after it
pub then-part : {A B : Type 0} (f : A → List ℕ → Parsed B) (p : Parsed A) (x : A) (s : List ℕ) (at : ℕ) (l q : Result ℕ Refusal) (y : B)
    → p ≡ read x (drop at s) → parsed_lines (tail s at) l y ≡ f x (tail s at) → q ≡ moved_on at l → parsed_lines s q y ≡ and_then p f
then-part f p x s at l q y e h m =
    stage-read (λ r. r) f p x s at (parsed_lines s q y) (ap (λ k. parsed_lines s k y) m ∙ (moved s at l y ∙ h)) e

-- the same, and what follows it stands within the bytes
pub then-reads : {A B : Type 0} (f : A → List ℕ → Parsed B) (p : Parsed A) (x : A) (s : List ℕ) (at : ℕ) (l q : Result ℕ Refusal) (y : B)
    → p ≡ read x (drop at s) → at ≤ length s → LinesReads (tail s at) l y (f x (tail s at)) → q ≡ moved_on at l
    → LinesReads s q y (and_then p f)
then-reads f p x s at l q y e h w m =
    record { same = then-part f p x s at l q y e w.same m; within = moved-within s at l q h w.within m }

-- two parts, and what was read after them
pub after_two : {A B C : Type 0} (p : Parsed A) (g : A → List ℕ → Parsed B) (f : A → B → List ℕ → Parsed C) (s : List ℕ) (i j : ℕ)
    (x : A) (y : B) (l q : Result ℕ Refusal) (v : C) → p ≡ read x (drop i s) → g x (tail s i) ≡ read y (drop j (tail s i))
    → parsed_lines (tail s (i + j)) l v ≡ f x y (tail s (i + j)) → q ≡ moved_on (i + j) l
    → parsed_lines s q v ≡ and_then p (λ x rest. and_then (g x rest) (λ y end. f x y end))
after_two p g f s i j x y l q v e₁ e₂ h m =
    let r = ap (λ k. parsed_lines s k v) m ∙ (moved s (i + j) l v ∙ (h ∙ ap (f x y) (sym (tail-tail s i j)))) in
    stage-read (λ p. p) _ _ x s i (parsed_lines s q v) (stage-read (λ p. p) _ _ y (tail s i) j (parsed_lines s q v) r e₂) e₁

-- a count up to the length of a list, where that is the most
pub counted-most : (count key : List ℕ) (least lo hi m most : ℕ) (s : List ℕ) (q : Parsed (List ℕ)) → m ≡ most
    → q ≡ (counted (number_part count least m) (numbers_part key lo hi)).reads s
    → (counted (number_part count least most) (numbers_part key lo hi)).reads s ≡ q
counted-most count key least lo hi m most s q h e =
    sym (e ∙ ap (λ k. (counted (number_part count least k) (numbers_part key lo hi)).reads s) h)

-- a count that is refused
pub count-refused : {A : Type 0} (g : ℕ → List ℕ → Parsed (List A)) (p : Parsed ℕ) (s : List ℕ) (blank : List A) (why : Refusal)
    → p ≡ refused why → ListReads s (Err why) (counted_in p) blank blank (and_then p g)
count-refused g p s blank why e =
    record {
      reads = record { same = stage-refused (λ q. q) g p why (refused why) refl e; within = omega arith };
      filled = rw e (filled_start 0 blank blank (omega arith) refl);
    }

-- a count n and so many lines, which were read into the first n places of a blank list; g reads n lines
pub counted-reads : {A : Type 0} (g : ℕ → List ℕ → Parsed (List A)) (p : Parsed ℕ) (n : ℕ) (s : List ℕ) (at : ℕ) (l : Result ℕ Refusal)
    (q : Result (ℕ × ℕ) Refusal) (xs blank : List A) → p ≡ read n (drop at s) → at ≤ length s → n ≤ length blank
    → length xs ≡ length (take n blank) → LinesReads (tail s at) l xs (g (length (take n blank)) (tail s at)) → list_count q n ≡ n
    → list_end q ≡ moved_on at l → ListReads s q (counted_in p) (xs ++ drop n blank) blank (and_then p g)
counted-reads g p n s at l q xs blank e h k i w c m =
    let t = length-take-le n blank k in
    let n' : list_count q (counted_in p) ≡ n = ap (λ r. list_count q (counted_in r)) e ∙ c in
    record {
      reads = rw (n', front-take n xs blank blank (i ∙ t)) (then-reads g p n s at l (list_end q) xs e h (rw t at w) m);
      filled = rw n' (front-filled n xs blank blank (i ∙ t) k refl);
    }
