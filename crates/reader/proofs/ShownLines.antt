-- What a reader shows of a line that the definition of reading accepts, and of lines one after another.
use Prim.Native.Nat.{ℕ, zero, suc, ◌<◌}
use mathlib.Core.Path.{◌≡◌, refl, ap, ◌∙◌}
use mathlib.Core.Bool.{true}
use mathlib.Core.List.{List, [], ◌∷◌, ◌++◌, map}
use native.Mathlib.Nat.{le_of_suc-le-suc, not-suc-le-zero}
use lib.Dec.{eqb}
use lib.ListN.{length, get_or}
use Rattle.text.specs.Keys.{line_feed}
use Rattle.sheet.specs.Lines.{read, Split, parts, none, and_before, split_at, of_line, value_line}
use Rattle.text.specs.Texts.{line_text, lines_text}
use Rattle.sheet.proofs.Parsing.{by-test, refused-read, lacks, after-back, value-forth}
use Rattle.sheet.specs.Parts.{Line, text_of}
use Rattle.reader.specs.Parts.{equals, part_before, line_key, line_value, after_line}
use Rattle.reader.specs.Along.{Shown, lines_shown, left_after, keyed}

-- bytes that follow stand in the second part of a split
split-more : (c : ℕ) (s v x y : List ℕ) → split_at c s ≡ parts x y → split_at c (s ++ v) ≡ parts x (y ++ v)
unfolding split_at
split-more c [] v x y e = cc
split-more c (b ∷ s) v x y e =
    by-test (eqb b c) _ _ (parts x y) e
    (λ h f. rw h (cc))
    (λ h f. rw h (go (split_at c s) (λ x' y'. split-more c s v x' y') f))
  where
    go : (p : Split) → ((x' y' : List ℕ) → p ≡ parts x' y' → split_at c (s ++ v) ≡ parts x' (y' ++ v)) → and_before b p ≡ parts x y
        → and_before b (split_at c (s ++ v)) ≡ parts x (y ++ v)
    go (parts x' y') more f = rw (more x' y' refl) (cc)
    go none more f = cc

-- a key has its "=" at the end and nowhere else
abbrev pub Key : List ℕ → Type 0
Key key = split_at equals key ≡ parts (part_before (split_at equals key)) []

-- s starts with the line of a key and a value, and rest follows it
pub record Starts (key v s rest : List ℕ) : Type 0 where
  pub line : (line_key s, line_value s) ≡ keyed key v
  pub after : after_line s ≡ rest

-- a line that is read is shown: its key, its value, and what follows it
pub line-shown : (key v s rest : List ℕ) → Key key → value_line key s ≡ read v rest → Starts key v s rest
unfolding value_line
line-shown key v s rest k e = go (split_at line_feed s) refl e
  where
    go : (p : Split) → split_at line_feed s ≡ p → of_line key p ≡ read v rest → Starts key v s rest
    go (parts line end) h f =
        let (l, r) = after-back key line end v rest f in
        let t : split_at equals (key ++ v) ≡ parts (part_before (split_at equals key)) v =
        split-more equals key v (part_before (split_at equals key)) [] k in
        record { line = rw (h, l, t); after = rw h r }
    go none h f = absurd (refused-read f)

-- so is a line that is written
pub text-shown : (key v rest : List ℕ) → Key key → lacks line_feed key ≡ true → lacks line_feed v ≡ true
    → Starts key v (line_text key v ++ rest) rest
text-shown key v rest k f g = line-shown key v (line_text key v ++ rest) rest k (value-forth key v rest f g)

-- going along s shows the lines ls, and leaves rest
pub record Shows (ls : List Shown) (s rest : List ℕ) : Type 0 where
  pub lines : lines_shown (length ls) s ≡ ls
  pub left : left_after (length ls) s ≡ rest

-- nothing is shown, and all is left
pub shows-none : (s : List ℕ) → Shows [] s s
unfolding lines_shown left_after
shows-none s = record { lines = refl; left = refl }

-- one line, and what is shown of the rest
pub shows-one : (key v s mid : List ℕ) (ls : List Shown) (rest : List ℕ) → Starts key v s mid → Shows ls mid rest
    → Shows (keyed key v ∷ ls) s rest
unfolding lines_shown left_after
shows-one key v s mid ls rest h g = record {
  lines = rw (h.line, h.after, g.lines);
  left = ap (left_after (length ls))
      h.after ∙ g.left;
}

-- the line n of those shown is the one at the head of what is left after n lines
pub shown-at : (k n : ℕ) (s : List ℕ) (d : Shown) → n < k → get_or (lines_shown k s) n d
    ≡ (line_key (left_after n s), line_value (left_after n s))
unfolding lines_shown left_after
shown-at zero n s d h = absurd (not-suc-le-zero h)
shown-at (suc k) zero s d h = refl
shown-at (suc k) (suc n) s d h = shown-at k n (after_line s) d (le_of_suc-le-suc h)

-- ---- lines as they are written

-- a line that is shown as it is: its key has one "=", at its end, and neither part has a line feed
abbrev pub Plain : Line → Type 0
Plain l = Key l.0 × (lacks line_feed l.0 ≡ true) × (lacks line_feed l.1 ≡ true)

abbrev pub AllPlain : List Line → Type 0
AllPlain [] = Unit {0}
AllPlain (l ∷ ls) = Plain l × AllPlain ls

-- of two lists one after the other, and of a line for each element
pub plain-append : (xs ys : List Line) → AllPlain xs → AllPlain ys → AllPlain (xs ++ ys)
plain-append [] ys h g = g
plain-append (x ∷ xs) ys h g = (h.0, plain-append xs ys h.1 g)

pub plain_map : {A : Type 0} (f : A → Line) → ((x : A) → Plain (f x)) → (xs : List A) → AllPlain (map f xs)
plain_map f h [] = tt
plain_map f h (x ∷ xs) = (h x, plain_map f h xs)

-- the text of such lines is shown line by line
pub text-shows : (ls : List Line) → AllPlain ls → Shows (map (λ l. keyed l.0 l.1) ls) (text_of ls) []
unfolding lines_text
text-shows [] h = shows-none []
text-shows (l ∷ ls) h =
    let (k, f, g) = h.0 in
    shows-one l.0 l.1 (text_of (l ∷ ls)) (text_of ls) _ [] (text-shown l.0 l.1 (text_of ls) k f g) (text-shows ls h.1)
