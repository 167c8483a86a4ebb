-- Laws of the entries that are read after a head, to the end of the bytes, and of the answer with them.
use Prim.Native.Nat.{ℕ, ◌≤◌, ◌<◌}
use mathlib.Core.Path.{◌≡◌, refl, sym, ap, ◌∙◌}
use mathlib.Core.Bool.{Bool}
use mathlib.Core.List.{List}
use Rattle.std.specs.Prelude.{Ok, Err}
use lib.Dec.{leb}
use lib.ListN.{length, take, drop}
use Rattle.model.specs.Sheets.{most_steps}
use Rattle.model.specs.Values.{idles, blank_marks, head_value_of}
use Rattle.model.specs.declared.Head.{Head}
use Rattle.model.specs.declared.Refusal.{Refusal}
use Rattle.model.specs.declared.Refusal.TheVariants.{BytesAfterEnd}
use Rattle.sheet.specs.Answers.{answer_of}
use Rattle.sheet.specs.Lines.{read, refused}
use Rattle.sheet.specs.Order.{entries_part, run_part}
use Rattle.sheet.specs.Reading.{at_end}
use Rattle.scan.specs.inner.AtPlace.{Filled}
use Rattle.scan.proofs.Stages.{stage-read, stage-refused}
use Rattle.read_touches.specs.inner.TouchesAtPlace.{entries_with, mark_count}
use Rattle.read_sheet.specs.inner.HeadsAtPlace.{HeadFilled}
use Rattle.read_sheet.proofs.EntriesRead.{entries-read}
use Rattle.read_sheet.proofs.ReadStages.{more_bytes, no_bytes, finished}

-- a sheet of a form with a head
module _ (form : ℕ) (h : Head) (f : HeadFilled h) (s : List ℕ) where
  -- its entries are refused
  pub run-refused : (why : Refusal) → refused why ≡ (entries_part (leb 2 form) (leb 4 form) h.segs).reads s
      → Err why ≡ answer_of (at_end ((run_part form (head_value_of h)).reads s))
  unfolding run_part answer_of
  run-refused why p = stage-refused (λ q. answer_of (at_end q)) _ _ why _ refl (entries-read form h s _ f p)

  -- or read up to the place end
  module _ (steps end : ℕ) (xs : List ℕ) (ms : List Bool)
      (p : read (entries_with (leb 4 form) (take steps xs) (take steps ms)) (drop end s)
      ≡ (entries_part (leb 2 form) (leb 4 form) h.segs).reads s) where
    -- with bytes behind them
    pub run-unended : end < length s → Err BytesAfterEnd ≡ answer_of (at_end ((run_part form (head_value_of h)).reads s))
    unfolding run_part answer_of
    run-unended lt =
        stage-read (λ q. answer_of (at_end q)) _ _ _ s end _ (ap answer_of (sym (more_bytes _ s end lt))) (entries-read form h s _ f p)

    -- and with none
    pub run-ended : length s ≤ end → Filled steps xs (idles most_steps) → Filled (mark_count (leb 4 form) steps) ms (blank_marks most_steps)
        → Ok (record { form = form; head = h; steps = steps; touches = xs; marked = mark_count (leb 4 form) steps; marks = ms })
        ≡ answer_of (at_end ((run_part form (head_value_of h)).reads s))
    unfolding run_part
    run-ended le g k =
        stage-read (λ q. answer_of (at_end q)) _ _ _ s end _
        (finished form h (leb 4 form) steps _ xs ms f g refl k ∙ ap answer_of (sym (no_bytes _ s end le))) (entries-read form h s _ f p)
