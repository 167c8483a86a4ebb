-- The lines of the page: every one has 72 characters and a line feed, a page has 60, and which row stands on which line.
use Prim.Native.Nat.{ℕ, zero, suc, ◌+◌, ◌*◌, ◌-◌, ◌≤◌, ◌<◌}
use mathlib.Core.Path.{◌≡◌, refl, sym, ap, ◌∙◌}
use mathlib.Core.Bool.{Bool, true, false, cond}
use mathlib.Core.List.{List, [], ◌∷◌, ◌++◌, map}
use native.Mathlib.Nat.{not-suc-le-zero, le_of_suc-le-suc}
use native.Mathlib.Omega.{arith}
use borrow.Table.Steps.{cases}
use lib.Dec.{ltb, leb}
use borrow.Author.Tests.{ltb-true, ltb-false, leb-true, leb-false, le-leb, lt-leb}
use lib.ListN.{length, get_or, take, drop, replicate, length-append, length-replicate, length-take, length-drop, get_or-append}
use lib.Seq.{get_or-append-add, get_or-take, get_or-drop}
use Rattle.model.specs.Rows.{zero_figures}
use Rattle.model.specs.declared.Kind.{Kind}
use Rattle.model.specs.declared.Kind.TheVariants.{Time, Space}
use Rattle.model.specs.declared.RowFigures.{RowFigures}
use Rattle.decimal.specs.Decimal.{written}
use Rattle.decimal.proofs.Written.{written-length}
use Rattle.text.specs.Keys.{kind_key, kind_word, a_key}
use Rattle.page.specs.Page.{
  line_width,
  page_height,
  rows_on_page,
  blank,
  columns,
  page_line,
  title_line,
  names_line,
  row_line,
  blank_line,
  page_lines,
  second_page,
  all_lines,
  line_of_row,
  concatenated,
  pages,
  pages_length,
  Fits,
  EachFits,
}
use Rattle.page.proofs.Blanks.{columns-length, line-length, second-some}

-- every line of a list has 72 characters and a line feed
abbrev pub Whole : List (List ℕ) → Type 0
Whole [] = Unit {0}
Whole (l ∷ ls) = (length l ≡ 73) × Whole ls

-- every row of a list fits
abbrev pub AllFit : List RowFigures → Type 0
AllFit [] = Unit {0}
AllFit (f ∷ fs) = Fits f × AllFit fs

-- ---- every line has 72 characters and a line feed

pub title-whole : (kind : Kind) (a : ℕ) → a ≤ 255 → length (title_line kind a) ≡ 73
unfolding title_line
title-whole kind a h = line-length _ (go kind)
  where
    go : (kind : Kind) → length (kind_key ++ (kind_word kind ++ (blank ∷ (a_key ++ written a)))) ≤ line_width
    go Time = omega (arith, written-length 2 a (omega arith))
    go Space = omega (arith, written-length 2 a (omega arith))

pub names-whole : length names_line ≡ 73
unfolding names_line page_line columns
names-whole = refl

pub row-whole : (f : RowFigures) → Fits f → length (row_line f) ≡ 73
unfolding row_line
row-whole f g =
    let c = columns-length (written f.h) (written f.d) (written f.misses) (written f.volume) (written f.load.0)
    (written f.mean) g.h_fits g.d_fits g.misses_fits g.volume_fits g.load_fits g.mean_fits in
    line-length _ (omega (arith, c))

pub blank-whole : length blank_line ≡ 73
unfolding blank_line page_line
blank-whole = refl

rows_whole : (fs : List RowFigures) → AllFit fs → (ls : List (List ℕ)) → Whole ls → Whole (map row_line fs ++ ls)
rows_whole [] h ls w = w
rows_whole (f ∷ fs) h ls w = (row-whole f h.0, rows_whole fs h.1 ls w)

blanks-whole : (n : ℕ) → Whole (replicate n blank_line)
blanks-whole zero = tt
blanks-whole (suc n) = (blank-whole, blanks-whole n)

pub page-whole : (kind : Kind) (a : ℕ) (fs : List RowFigures) → a ≤ 255 → AllFit fs → Whole (page_lines kind a fs)
unfolding page_lines
page-whole kind a fs h g = (title-whole kind a h, (names-whole, rows_whole fs g _ (blanks-whole (rows_on_page - length fs))))

-- lines of 72 characters and a line feed one after another
pub concatenated-length : (ls : List (List ℕ)) → Whole ls → length (concatenated ls) ≡ 73 * length ls
unfolding concatenated
concatenated-length [] w = refl
concatenated-length (l ∷ ls) w = rw (length-append, w.0, concatenated-length ls w.1) (omega arith)

-- ---- a page has 60 lines

rows-count : (fs : List RowFigures) → length (map row_line fs) ≡ length fs
rows-count [] = refl
rows-count (f ∷ fs) = ap suc (rows-count fs)

pub page-count : (kind : Kind) (a : ℕ) (fs : List RowFigures) → length fs ≤ rows_on_page → length (page_lines kind a fs) ≡ page_height
unfolding page_lines
page-count kind a fs h =
    let n = rows_on_page - length fs in
    omega (arith, length-append (map row_line fs) (replicate n blank_line), rows-count fs, length-replicate n blank_line)

second-count : (kind : Kind) (a : ℕ) (fs : List RowFigures) → length fs ≤ rows_on_page
    → length (second_page kind a fs) ≡ cond (leb (length fs) 0) 0 page_height
unfolding second_page
second-count kind a [] h = refl
second-count kind a (f ∷ fs) h = page-count kind a (f ∷ fs) h ∙ rw (lt-leb (suc (length fs)) 0 (omega arith))

-- ---- one page has 4,380 bytes, two have 8,760

whole_append : (k l : List (List ℕ)) → Whole k → Whole l → Whole (k ++ l)
whole_append [] l v w = w
whole_append (x ∷ k) l v w = (v.0, whole_append k l v.1 w)

second-whole : (kind : Kind) (a : ℕ) (fs : List RowFigures) → a ≤ 255 → AllFit fs → Whole (second_page kind a fs)
unfolding second_page
second-whole kind a [] h g = tt
second-whole kind a (f ∷ fs) h g = page-whole kind a (f ∷ fs) h g

fit-take : (n : ℕ) (fs : List RowFigures) → AllFit fs → AllFit (take n fs)
fit-take zero fs g = tt
fit-take (suc n) [] g = tt
fit-take (suc n) (f ∷ fs) g = (g.0, fit-take n fs g.1)

fit-drop : (n : ℕ) (fs : List RowFigures) → AllFit fs → AllFit (drop n fs)
fit-drop zero fs g = g
fit-drop (suc n) [] g = tt
fit-drop (suc n) (f ∷ fs) g = fit-drop n fs g.1

-- every line of the page or the two pages
pub all_whole : (kind : Kind) (a : ℕ) (fs : List RowFigures) → a ≤ 255 → AllFit fs → Whole (all_lines kind a fs)
unfolding all_lines
all_whole kind a fs h g =
    whole_append (page_lines kind a (take rows_on_page fs)) (second_page kind a (drop rows_on_page fs))
    (page-whole kind a (take rows_on_page fs) h (fit-take rows_on_page fs g))
    (second-whole kind a (drop rows_on_page fs) h (fit-drop rows_on_page fs g))

pub pages-length : (kind : Kind) (a : ℕ) (fs : List RowFigures) → a ≤ 255 → AllFit fs → length fs ≤ 64
    → length (pages kind a fs) ≡ pages_length (length fs)
unfolding pages all_lines
pages-length kind a fs h g l =
    let one = page-count kind a (take rows_on_page fs) (rw length-take (omega arith)) in
    let more : length (drop rows_on_page fs) ≡ length fs - rows_on_page = length-drop rows_on_page fs in
    let two = second-count kind a (drop rows_on_page fs) (omega (arith, more)) in
    let all = length-append (page_lines kind a (take rows_on_page fs)) (second_page kind a (drop rows_on_page fs)) in
    concatenated-length (all_lines kind a fs) (all_whole kind a fs h g) ∙ go (leb (length fs) rows_on_page) refl one two all more
  where
    go : (b : Bool) → leb (length fs) rows_on_page ≡ b → {x y z m : ℕ} → x ≡ page_height → y ≡ cond (leb m 0) 0 page_height → z ≡ x + y
        → m ≡ length fs - rows_on_page → 73 * z ≡ cond b 4380 8760
    go true e {m = m} p q r w =
        let none : leb m 0 ≡ true = le-leb m 0 (omega (arith, leb-true (length fs) rows_on_page e)) in
        omega (arith, rw none at q)
    go false e {m = m} p q r w =
        let some_rows : leb m 0 ≡ false = lt-leb m 0 (omega (arith, leb-false (length fs) rows_on_page e)) in
        omega (arith, rw some_rows at q)

-- at least one page, and two where there are more than 58 rows
pub pages-least : (rows : ℕ) → 4380 ≤ pages_length rows
pages-least rows = cases (leb rows rows_on_page) (λ e. rw e (omega arith)) (λ e. rw e (omega arith))

pub pages-two : (rows : ℕ) → rows_on_page < rows → pages_length rows ≡ 8760
pages-two rows h = rw (lt-leb rows rows_on_page h)

each-fit : (fs : List RowFigures) → EachFits fs → AllFit fs
each-fit [] g = tt
each-fit (f ∷ fs) g = (g 0 (omega arith), each-fit fs (λ r h. g (suc r) (omega arith)))

-- the pages of rows that fit
pub each-length : (kind : Kind) (a : ℕ) (fs : List RowFigures) → a ≤ 255 → length fs ≤ 64 → EachFits fs
    → length (pages kind a fs) ≡ pages_length (length fs)
each-length kind a fs h l g = pages-length kind a fs h (each-fit fs g) l

-- ---- which row stands on which line

in_rows : (fs : List RowFigures) (ls : List (List ℕ)) (r : ℕ) → r < length fs
    → get_or (map row_line fs ++ ls) r [] ≡ row_line (get_or fs r zero_figures)
in_rows [] ls r h = absurd (not-suc-le-zero h)
in_rows (f ∷ fs) ls zero h = refl
in_rows (f ∷ fs) ls (suc r) h = in_rows fs ls r (le_of_suc-le-suc h)

-- row r of a page stands below its two top lines and the rows before it
pub in-page : (kind : Kind) (a : ℕ) (fs : List RowFigures) (r : ℕ) → r < length fs
    → get_or (page_lines kind a fs) (2 + r) [] ≡ row_line (get_or fs r zero_figures)
unfolding page_lines
in-page kind a fs r h =
    let e : 2 + r ≡ suc (suc r) = omega arith in
    rw e (in_rows fs (replicate (rows_on_page - length fs) blank_line) r h)

pub row-on-line : (kind : Kind) (a : ℕ) (fs : List RowFigures) (r : ℕ) → r < length fs
    → get_or (all_lines kind a fs) (line_of_row r) [] ≡ row_line (get_or fs r zero_figures)
unfolding all_lines
row-on-line kind a fs r h = go (ltb r rows_on_page) refl
  where
    go : (b : Bool) → ltb r rows_on_page ≡ b
        → get_or (page_lines kind a (take rows_on_page fs) ++ second_page kind a (drop rows_on_page fs))
        (cond b (2 + r) (page_height + (2 + (r - rows_on_page)))) []
        ≡ row_line (get_or fs r zero_figures)
    go true e =
        let low = ltb-true r rows_on_page e in
        let count = page-count kind a (take rows_on_page fs) (rw length-take (omega arith)) in
        let here : r < length (take rows_on_page fs) = rw length-take (omega arith) in
        get_or-append (page_lines kind a (take rows_on_page fs)) (second_page kind a (drop rows_on_page fs)) [] (2 + r)
        (omega (arith, count))
        ∙ (in-page kind a (take rows_on_page fs) r here ∙ ap row_line (get_or-take rows_on_page fs r zero_figures low))
    go false e =
        let high = ltb-false r rows_on_page e in
        let count = page-count kind a (take rows_on_page fs) (rw length-take (omega arith)) in
        let q = r - rows_on_page in
        let here : q < length (drop rows_on_page fs) = rw length-drop (omega arith) in
        let back : rows_on_page + q ≡ r = omega arith in
        ap (λ k. get_or (page_lines kind a (take rows_on_page fs) ++ second_page kind a (drop rows_on_page fs)) (k + (2 + q)) [])
        (sym count)
        ∙ (get_or-append-add (page_lines kind a (take rows_on_page fs)) (second_page kind a (drop rows_on_page fs)) (2 + q) []
        ∙ (ap (λ l. get_or l (2 + q) []) (second-some kind a (drop rows_on_page fs) (omega arith))
        ∙ (in-page kind a (drop rows_on_page fs) q here
        ∙ (ap row_line (get_or-drop rows_on_page fs q zero_figures) ∙ ap (λ k. row_line (get_or fs k zero_figures)) back))))
