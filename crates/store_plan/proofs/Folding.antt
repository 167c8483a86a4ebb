-- The loop from the last step to the first that makes one decision of each touch: its start, a turn and its end; and that the decisions are
-- those of the schedule of the least total.
use Prim.Native.Nat.{ℕ, suc, ◌-◌, ◌≤◌, ◌<◌}
use mathlib.Core.Path.{◌≡◌, refl, sym, ap, ◌∙◌}
use mathlib.Core.Bool.{Bool, true, false, cond, ◌&&◌, ◌||◌}
use mathlib.Core.List.{List}
use native.Mathlib.Omega.{arith}
use lib.Dec.{eqb}
use lib.ListN.{length, get_or, set, take, replicate, length-set, length-replicate, get_or-replicate}
use lib.Seq.{get_or-take, get_or-set_same, get_or-set_other}
use borrow.Author.Tests.{eqb-true, eqb-false}
use Rattle.model.specs.Decisions.{decided_schedule, decisions_of}
use Rattle.model.specs.Traces.{Trace, segs, steps, entry, touched}
use Rattle.model.specs.declared.PriceRow.{PriceRow}
use Rattle.model.proofs.Touches.{touched-at, touched-is, idle-touched, entry-ref}
use Rattle.stores.specs.Modtotal.{joins_before, mod_schedule}
use Rattle.stores.specs.inner.Decisions.{mod_kept}
use Rattle.stores.proofs.Decisions.{decisions-mod}
use Rattle.stores.proofs.Nexts.{next_mark, mark-step, mark-end, next_marked-eq}
use Rattle.store_plan.specs.declared.mod_pass.Found.{Found}
use Rattle.store_plan.specs.inner.Decisions.{decision_at, joined_in, FoundIn, FoldedFrom, Folded, Decides}

-- before the step at place t: the flag of each segment, and the decisions of the steps from there on
pub record Flagged (T : Trace) (marks : ℕ → Bool) (found : Found) (flags on : List Bool) (t : ℕ) : Type 0 where
  pub flags_are : (i : ℕ) → i < 256 → get_or flags i false ≡ next_mark T marks (joined_in found.decisions) t i
  pub on_are : FoldedFrom T marks found on t

module _ (T : Trace) (marks : ℕ → Bool) (found : Found) where
  abbrev next_of : ℕ → ℕ → Bool
  next_of t i = next_mark T marks (joined_in found.decisions) t i

  flagged_start : (on : List Bool) → Flagged T marks found (replicate 256 false) on (steps T)
  flagged_start on =
      record {
        flags_are = λ i lt. get_or-replicate 256 i false false lt ∙ sym (mark-end T marks (joined_in found.decisions) i);
        on_are = λ t le lt. absurd (omega arith);
      }

  module _ (flags on : List Bool) (t : ℕ) (v : Flagged T marks found flags on (suc t)) (lt : t < steps T) where
    step : (i : ℕ) → next_of t i ≡ cond (touched T t i && marks t) ((decision_at found.decisions t).joined) (next_of (suc t) i)
    step i = mark-step T marks (joined_in found.decisions) t i lt

    -- a touch of segment i
    flagged_touch : (i : ℕ) (f x : Bool) → length flags ≡ 256 → t < length on → i < 256 → entry T t ≡ i → i < segs T
        → f ≡ cond (marks t) ((decision_at found.decisions t).joined) (get_or flags i false) → x ≡ (decision_at found.decisions t).kept || f
        → Flagged T marks found (set flags i f) (set on t x) t
    flagged_touch i f x whole room few e li ef ex =
        record {
          flags_are = λ k l. go k l (eqb i k) refl;
          on_are = λ k le l touch. here k le l touch (eqb t k) refl;
        }
      where
        touch_is : touched T t i ≡ true
        touch_is = rw (← e) (touched-at T t (omega arith))

        flag_is : f ≡ next_of t i
        flag_is = ef ∙ rw (v.flags_are i few) (sym (step i ∙ rw touch_is))

        go : (k : ℕ) → k < 256 → (b : Bool) → eqb i k ≡ b → get_or (set flags i f) k false ≡ next_of t k
        go k l true same = rw (← eqb-true i k same) (get_or-set_same flags i f false (omega arith) ∙ flag_is)
        go k l false same =
            let other = eqb-false i k same in
            get_or-set_other flags i k f false (λ z. other (sym z))
            ∙ v.flags_are k l
            ∙ sym (step k ∙ rw (touched-is T t k (omega arith), e, same))

        here : (k : ℕ) → t ≤ k → k < steps T → entry T k < segs T → (b : Bool) → eqb t k ≡ b
            → get_or (set on t x) k false ≡ (decision_at found.decisions k).kept || next_of k (entry T k)
        here k le l touch true same =
            rw (← eqb-true t k same) (get_or-set_same on t x false room ∙ (ex ∙ rw (flag_is, e)))
        here k le l touch false same =
            let other = eqb-false t k same in
            get_or-set_other on t k x false (λ z. other (sym z)) ∙ v.on_are k (omega arith) l touch

    -- a step without a touch
    flagged_idle : segs T ≤ entry T t → Flagged T marks found flags on t
    flagged_idle idle =
        record {
          flags_are = λ k l. v.flags_are k l ∙ sym (step k ∙ rw (idle-touched T t k idle));
          on_are = λ k le l touch. here k le l touch (eqb t k) refl;
        }
      where
        here : (k : ℕ) → t ≤ k → k < steps T → entry T k < segs T → (b : Bool) → eqb t k ≡ b
            → get_or on k false ≡ (decision_at found.decisions k).kept || next_of k (entry T k)
        here k le l touch true same = absurd (omega (arith, rw (← eqb-true t k same) at touch))
        here k le l touch false same =
            let other = eqb-false t k same in
            v.on_are k (omega arith) l touch

-- the same of every run of so many segments and these references, as the loop goes
pub record Folding (segments : ℕ) (refs : List ℕ) (marks : ℕ → Bool) (found : Found) (flags on : List Bool) (t : ℕ) : Type 0 where
  pub within : t ≤ length refs
  pub flags_whole : length flags ≡ 256
  pub on_whole : length on ≡ 2048
  pub flagged_of : (T : Trace) → segs T ≡ segments → T.entries ≡ refs → Flagged T marks found flags on t

module _ (segments : ℕ) (refs : List ℕ) (marks : ℕ → Bool) (found : Found) (few : segments ≤ 256) (short : length refs ≤ 2048) where
  pub folding_start : (flags on : List Bool) → flags ≡ replicate 256 false → on ≡ replicate 2048 false
      → Folding segments refs marks found flags on (length refs)
  folding_start flags on ef eo =
      record {
        within = omega arith;
        flags_whole = rw ef (length-replicate 256 false);
        on_whole = rw eo (length-replicate 2048 false);
        flagged_of = λ T es er.
            let n : length T.entries ≡ length refs = ap length er in
            rw (← ef, n) at (flagged_start T marks found on);
      }

  -- of a run of so many segments and these references
  module _ (T : Trace) (es : segs T ≡ segments) (er : T.entries ≡ refs) where
    steps_is : steps T ≡ length refs
    steps_is = ap length er

    entry_is : (k : ℕ) → k < length refs → entry T k ≡ get_or refs k 0
    entry_is k lt = entry-ref T k (omega (arith, steps_is)) ∙ ap (λ (l : List ℕ). get_or l k 0) er

    from : (flags on : List Bool) (t k : ℕ) → t ≡ suc k → Flagged T marks found flags on t → Flagged T marks found flags on (suc k)
    from flags on t k e v = rw e at v

  module _ (flags on : List Bool) (t : ℕ) (v : Folding segments refs marks found flags on t) (some : 0 < t) where
    -- a turn at a touch of segment i
    pub folding_touch : (i : ℕ) (f x : Bool) → i ≡ get_or refs (t - 1) 0 → i < segments
        → f ≡ cond (marks (t - 1)) ((decision_at found.decisions (t - 1)).joined) (get_or flags i false)
        → x ≡ (decision_at found.decisions (t - 1)).kept || f
        → Folding segments refs marks found (set flags i f) (set on (t - 1) x) (t - 1)
    folding_touch i f x ei li ef ex =
        record {
          within = omega (arith, v.within);
          flags_whole = length-set flags i f ∙ v.flags_whole;
          on_whole = length-set on (t - 1) x ∙ v.on_whole;
          flagged_of = λ T es er.
              flagged_touch T marks found flags on (t - 1) (from T es er flags on t (t - 1) (omega arith) (v.flagged_of T es er))
              (omega (arith, v.within, steps_is T es er)) i f x v.flags_whole (omega (arith, v.within, v.on_whole)) (omega arith)
              (entry_is T es er (t - 1) (omega (arith, v.within)) ∙ sym ei) (omega (arith, es)) ef ex;
        }

    -- a turn at a step without a touch
    pub folding_idle : segments ≤ get_or refs (t - 1) 0 → Folding segments refs marks found flags on (t - 1)
    folding_idle idle =
        record {
          within = omega (arith, v.within);
          flags_whole = v.flags_whole;
          on_whole = v.on_whole;
          flagged_of = λ T es er.
              flagged_idle T marks found flags on (t - 1) (from T es er flags on t (t - 1) (omega arith) (v.flagged_of T es er))
              (omega (arith, v.within, steps_is T es er)) (omega (arith, es, entry_is T es er (t - 1) (omega (arith, v.within))));
        }

-- the decisions of what is found are those of the schedule of the least total
pub folded-decides : (T : Trace) (marks : ℕ → Bool) (row : PriceRow) (found : Found) (on : List Bool) → FoundIn T marks row found
    → Folded T marks found on → Decides T marks row on
unfolding mod_kept
folded-decides T marks row found on told folded t lt touch =
    folded t (omega arith) lt touch
    ∙ rw (
      told.touches.kept_are t lt touch,
      next_marked-eq T marks (joined_in found.decisions) (joins_before T marks row.h row.d) told.touches.joined_are (steps T - t)
          t (entry T t)
          (omega arith),
    )

-- and so is the schedule by them
pub decides-schedule : (T : Trace) (marks : ℕ → Bool) (row : PriceRow) (on : List Bool) → Decides T marks row on
    → decided_schedule T (decisions_of (take (steps T) on)) ≡ mod_schedule T marks row.h row.d
decides-schedule T marks row on told =
    decisions-mod T marks row.h row.d (take (steps T) on)
    (λ t lt touch. get_or-take (steps T) on t false lt ∙ told t lt touch)
