-- What the two passes that decide the touches give: the kept reuses and the modifying touches that belong to the stay of the one before,
-- what all of these add, and then for each touch whether it finds its segment held.
use Rattle.std.specs.Prelude.{ℕ, ◌-◌, ◌≤◌, ◌<◌, ◌≡◌, Bool, false, ◌||◌, List, length, get_or}
use Rattle.model.specs.Figures.{kept}
use Rattle.model.specs.Sheets.{most_segs, most_steps, RunWithin}
use Rattle.model.specs.Traces.{Trace, segs, steps, entry}
use Rattle.model.specs.declared.PriceRow.{PriceRow}
use Rattle.stores.specs.Modtotal.{mod_added, joins_before, next_marked}
use Rattle.stores.specs.inner.Decisions.{mod_kept}
use Rattle.store_plan.specs.declared.mod_pass.Found.{Found}
use Rattle.store_plan.specs.declared.mod_pass.touching.Decision.{Decision}

-- a run within the limits, with a mark for each of its steps
pub record Markable (T : Trace) (marks : List Bool) : Type 0 where
  pub run : RunWithin T
  pub marks_all : length marks ≡ steps T

-- so many segments, references and marks, within the limits
pub record Foldable (segments : ℕ) (refs : List ℕ) (marks : List Bool) : Type 0 where
  pub segs_within : segments ≤ most_segs
  pub steps_within : length refs ≤ most_steps
  pub marks_all : length marks ≡ length refs

-- what is found of the touch in the step at place t, and of each whether it is joined
abbrev pub decision_at : List Decision → ℕ → Decision
decision_at found t = get_or found t (record { kept = false; joined = false })

abbrev pub joined_in : List Decision → ℕ → ℕ → Bool
joined_in found t i = (decision_at found t).joined

-- of each of the first n steps that touches a segment: whether that is a kept reuse, and whether, modifying, it belongs to the stay of the
-- one before
pub record FoundBy (T : Trace) (marks : ℕ → Bool) (row : PriceRow) (found : List Decision) (n : ℕ) : Type 0 where
  pub kept_are : (t : ℕ) → t < n → entry T t < segs T → (decision_at found t).kept ≡ kept T row.h row.d t (entry T t)
  pub joined_are : (t : ℕ) → t < n → entry T t < segs T → (decision_at found t).joined ≡ joins_before T marks row.h row.d t (entry T t)

-- all that the pass over the references finds
pub record FoundIn (T : Trace) (marks : ℕ → Bool) (row : PriceRow) (found : Found) : Type 0 where
  pub touches : FoundBy T marks row found.decisions (steps T)
  pub added_is : found.added.0 ≡ mod_added T marks row.h row.d

-- of each step from place n on that touches a segment: kept, or the next modifying touch from there on is joined
abbrev pub FoldedFrom : Trace → (ℕ → Bool) → Found → List Bool → ℕ → Type 0
FoldedFrom T marks found on n =
    (t : ℕ) → n ≤ t → t < steps T → entry T t < segs T
    → get_or on t false
    ≡ (decision_at found.decisions t).kept || next_marked T marks (joined_in found.decisions) (steps T - t) t (entry T t)

abbrev pub Folded : Trace → (ℕ → Bool) → Found → List Bool → Type 0
Folded T marks found on = FoldedFrom T marks found on 0

-- of each step that touches a segment: whether that finds it held in the schedule of the least total
abbrev pub Decides : Trace → (ℕ → Bool) → PriceRow → List Bool → Type 0
Decides T marks row on =
    (t : ℕ) → t < steps T → entry T t < segs T → get_or on t false ≡ mod_kept T marks row.h row.d t (entry T t)
