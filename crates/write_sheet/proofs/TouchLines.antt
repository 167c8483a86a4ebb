-- Laws of writing touches from entries and their marks one after another: what one entry more adds to the touches and to their lines.
use Prim.Native.Nat.{ℕ, suc, ◌+◌, ◌≤◌, ◌<◌}
use mathlib.Core.Path.{◌≡◌, refl, sym, ap, ◌∙◌}
use mathlib.Core.Bool.{Bool, true, false, cond, not}
use mathlib.Core.List.{List, [], ◌∷◌, ◌++◌, append_assoc, append-nil}
use native.Mathlib.Nat.{add-zero, zero-add}
use native.Mathlib.Numerals.{add-one}
use native.Mathlib.Omega.{arith}
use borrow.Table.Steps.{cases}
use lib.Dec.{eqb}
use lib.ListN.{length, get_or, take, drop, length-append, take-append-drop}
use lib.Seq.{length-take-le, take-suc}
use Rattle.std.specs.Int.{from_bool}
use Rattle.model.specs.Sheets.{idle, marks_of}
use Rattle.text.specs.Keys.{steps_key, refs_key}
use Rattle.text.specs.Texts.{number_text, lines_text}
use Rattle.sheet.specs.Touches.{Touch, touches_from, touch_text, touches_text}
use Rattle.write_sheet.specs.inner.Steps.{touches_with, steps_text}

-- ---- one entry

module _ (marks : ℕ → Bool) (before x : ℕ) where
  -- an idle one has no touch
  pub entry-idle : eqb x idle ≡ true → touches_from marks before (x ∷ []) ≡ []
  unfolding touches_from
  entry-idle e = rw e

  -- any other has one
  pub entry-touch : eqb x idle ≡ false
      → touches_from marks before (x ∷ []) ≡ record { segment = x; step = before + 1; modifies = marks before } ∷ []
  unfolding touches_from
  entry-touch e = rw (e, add-one)

  -- and its line
  pub text-idle : eqb x idle ≡ true → touches_text (touches_from marks before (x ∷ [])) ≡ []
  unfolding lines_text
  text-idle e = rw (entry-idle e)

  pub text-touch : (m : Bool) → m ≡ marks before → eqb x idle ≡ false
      → touch_text (record { segment = x; step = before + 1; modifies = m }) ≡ touches_text (touches_from marks before (x ∷ []))
  unfolding lines_text
  text-touch m h e = rw (h, entry-touch e) (sym (append-nil _))

  -- how many touches
  pub entry-count : from_bool (not (eqb x idle)) ≡ length (touches_from marks before (x ∷ []))
  entry-count = cases (eqb x idle) (λ e. rw (e, entry-idle e)) (λ e. rw (e, entry-touch e))

-- ---- one entry more

-- the touches of entries and of those behind them
touches-append : (marks : ℕ → Bool) (xs ys : List ℕ) (before : ℕ)
    → touches_from marks before (xs ++ ys) ≡ touches_from marks before xs ++ touches_from marks (length xs + before) ys
unfolding touches_from
touches-append marks [] ys before = rw zero-add
touches-append marks (x ∷ xs) ys before =
    let e : length xs + suc before ≡ suc (length xs) + before = omega arith in
    go (eqb x idle) _ (touches-append marks xs ys (suc before) ∙ ap (λ b. touches_from marks (suc before) xs ++ touches_from marks b ys) e)
  where
    go : (b : Bool) (t : Touch)
        → touches_from marks (suc before) (xs ++ ys) ≡ touches_from marks (suc before) xs ++ touches_from marks (suc (length xs) + before)
        ys
        → cond b (touches_from marks (suc before) (xs ++ ys)) (t ∷ touches_from marks (suc before) (xs ++ ys))
        ≡ cond b (touches_from marks (suc before) xs) (t ∷ touches_from marks (suc before) xs)
        ++ touches_from marks (suc (length xs) + before) ys
    go true t e = e
    go false t e = ap (λ ts. t ∷ ts) e

-- the lines of touches and of those behind them
text-append : (xs ys : List Touch) → touches_text (xs ++ ys) ≡ touches_text xs ++ touches_text ys
unfolding lines_text
text-append [] ys = refl
text-append (x ∷ xs) ys = rw (text-append xs ys) (sym (append_assoc (touch_text x) (touches_text xs) (touches_text ys)))

module _ (marks : List Bool) (xs : List ℕ) (i : ℕ) (h : i < length xs) where
  -- the touches of the first n entries, and those of the entry at i
  abbrev up_to : ℕ → List Touch
  up_to n = touches_with (take n xs) marks

  abbrev here : List Touch
  here = touches_from (marks_of marks) i (get_or xs i 0 ∷ [])

  -- the touches of one entry more
  pub touches-next : up_to (i + 1) ≡ up_to i ++ here
  touches-next =
      let l : length (take i xs) + 0 ≡ i = rw add-zero (length-take-le i xs (omega arith)) in
      rw (add-one i, take-suc xs i 0 h)
      (touches-append (marks_of marks) (take i xs) (get_or xs i 0 ∷ []) 0
      ∙ ap (λ b. up_to i ++ touches_from (marks_of marks) b (get_or xs i 0 ∷ [])) l)

  -- their lines
  pub text-next : touches_text (up_to (i + 1)) ≡ touches_text (up_to i) ++ touches_text here
  text-next = rw touches-next (text-append (up_to i) here)

  -- and there is room for these where there is room for all lines
  pub text-room : length (touches_text (up_to i)) + length (touches_text here) ≤ length (touches_text (touches_with xs marks))
  text-room =
      let front = take (i + 1) xs in
      let more = touches_from (marks_of marks) (length front + 0) (drop (i + 1) xs) in
      let a : touches_with xs marks ≡ up_to (i + 1) ++ more =
      ap (λ ys. touches_with ys marks) (sym (take-append-drop (i + 1) xs))
      ∙ touches-append (marks_of marks) front (drop (i + 1) xs) 0 in
      let b : touches_text (touches_with xs marks) ≡ touches_text (up_to (i + 1)) ++ touches_text more =
      ap touches_text a ∙ text-append (up_to (i + 1)) more in
      let m = ap length b ∙ length-append (touches_text (up_to (i + 1))) (touches_text more) in
      let n = ap length text-next ∙ length-append (touches_text (up_to i)) (touches_text here) in
      omega (arith, m, n)

  -- how many touches
  pub count_next : (count n : ℕ) → count ≡ length (up_to i) → n ≡ length here → count + n ≡ length (up_to (i + 1))
  count_next count n e f = rw (touches-next, length-append, e, f)

-- ---- the whole

-- the lines of the entries of form 2 on
pub steps-length : (xs : List ℕ) (marks : List Bool) → length (steps_text xs marks)
    ≡ length (number_text steps_key (length xs))
    + (length (number_text refs_key (length (touches_with xs marks))) + length (touches_text (touches_with xs marks)))
unfolding steps_text
steps-length xs marks = simp length-append
