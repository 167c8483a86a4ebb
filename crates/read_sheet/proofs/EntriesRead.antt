-- Laws of the entries of a sheet as they are read after its head.
use Prim.Native.Nat.{ℕ, ◌-◌, ◌<◌, ◌≤◌}
use mathlib.Core.Path.{◌≡◌, refl, sym, ap, ◌∙◌}
use mathlib.Core.Bool.{Bool}
use mathlib.Core.List.{List, []}
use native.Mathlib.Omega.{arith}
use borrow.Author.Tests.{le-leb, lt-leb}
use lib.Dec.{leb}
use lib.ListN.{length, take}
use Rattle.std.specs.Prelude.{Result, Ok, Err}
use Rattle.text.specs.Keys.{steps_key, refs_key, ref_key}
use Rattle.model.specs.Sheets.{most_steps}
use Rattle.model.specs.Values.{head_value_of}
use Rattle.model.specs.declared.Head.{Head}
use Rattle.model.specs.declared.Refusal.{Refusal}
use Rattle.sheet.specs.Lines.{Parsed, read, and_then, number_line}
use Rattle.sheet.specs.Order.{number_part, numbers_part, refs_part, plain_part, steps_part, entries_part}
use Rattle.sheet.specs.Parts.{counted}
use Rattle.sheet.specs.Touches.{Entries}
use Rattle.scan.specs.inner.AtPlace.{parsed_lines, counted_in, list_end, list_count, ListReads}
use Rattle.read_sheet.specs.inner.HeadsAtPlace.{HeadFilled}
use Rattle.read_touches.specs.inner.TouchesAtPlace.{StepsReads}
use Rattle.scan.proofs.Blanks.{filled_start}
use Rattle.read_sheet.specs.inner.AtPlace.{steps_counted}
use Rattle.read_sheet.proofs.HeadParts.{sizes-counted}

-- what is made of a value that was read
made : {A B : Type 0} (g : A → B) (s : List ℕ) (l : Result ℕ Refusal) (y : A)
    → parsed_lines s l (g y) ≡ and_then (parsed_lines s l y) (λ z end. read (g z) end)
made g s (Ok next) y = refl
made g s (Err why) y = refl

-- the entries of form 2 on
pub steps-read : (form segs : ℕ) (s : List ℕ) (r : Result (ℕ × ℕ) Refusal) (xs blank : List ℕ) (ms unmarked : List Bool) → 2 ≤ form
    → StepsReads (leb 4 form) s r (counted_in (number_line steps_key 0 most_steps s)) xs blank ms unmarked
    ((steps_part (leb 4 form) segs).reads s)
    → StepsReads (leb 4 form) s r (steps_counted (leb 2 form) s) xs blank ms unmarked
    ((entries_part (leb 2 form) (leb 4 form) segs).reads s)
steps-read form segs s r xs blank ms unmarked t e = rw (le-leb 2 form t) e

-- those of form 1, which has no marks
pub refs-read : (form segs : ℕ) (s : List ℕ) (r : Result (ℕ × ℕ) Refusal) (xs blank : List ℕ) (ms : List Bool) (m : ℕ) → form < 2
    → m ≡ most_steps
    → ListReads s r (counted_in (number_line refs_key 0 m s)) xs blank
    ((counted (number_part refs_key 0 m) (numbers_part ref_key 0 (segs - 1))).reads s)
    → StepsReads (leb 4 form) s r (steps_counted (leb 2 form) s) xs blank ms ms ((entries_part (leb 2 form) (leb 4 form) segs).reads s)
unfolding plain_part refs_part
refs-read form segs s r xs blank ms m t e d =
    let g : List ℕ → Entries = λ ys. record { entries = ys; marks = [] } in
    let n = list_count r (counted_in (number_line refs_key 0 most_steps s)) in
    let d' : ListReads s r (counted_in (number_line refs_key 0 most_steps s)) xs blank
    ((counted (number_part refs_key 0 most_steps) (numbers_part ref_key 0 (segs - 1))).reads s) = rw e at d in
    rw (lt-leb 2 form t, lt-leb 4 form (omega arith))
    (record {
      reads =
          record {
            same = made g s (list_end r) (take n xs) ∙ ap (λ p. and_then p (λ ys end. read (g ys) end)) d'.reads.same;
            within = d'.reads.within;
          };
      filled = d'.filled;
      marked = filled_start 0 ms ms (omega arith) refl;
    })

-- the entries of a sheet with a head
pub entries-read : (form : ℕ) (h : Head) (s : List ℕ) (q : Parsed Entries) → HeadFilled h
    → q ≡ (entries_part (leb 2 form) (leb 4 form) h.segs).reads s
    → (entries_part (leb 2 form) (leb 4 form) (length (head_value_of h).sizes)).reads s ≡ q
entries-read form h s q f d = ap (λ n. (entries_part (leb 2 form) (leb 4 form) n).reads s) (sizes-counted h f) ∙ sym d
