-- Request F-13's demand on runs holds: of at most 256 segments, each of a size that is not 0, with a price d that is not 0 and none but
-- segments warm; so it holds of every run of a sheet.
use Prim.Native.Nat.{ℕ, ◌≤◌, ◌<◌}
use mathlib.Core.Path.{◌≡◌, sym, ◌∙◌}
use mathlib.Core.Bool.{Bool, false}
use mathlib.Core.List.{List}
use native.Mathlib.Omega.{arith}
use lib.ListN.{length}
use Rattle.model.specs.Costs.{unit_cost}
use Rattle.model.specs.Sheets.{listed, run_of, RunWithin, WarmWithin}
use Rattle.model.specs.Traces.{Trace, segs, unit_of}
use Rattle.model.specs.declared.Kind.{Kind}
use Rattle.model.specs.declared.Kind.TheVariants.{Time, Space}
use Rattle.model.proofs.Warm.{warm-segment}
use Rattle.stores.specs.Demand.{MarkedDemand}
use Rattle.stores.proofs.LowerBound.{marked-lower-bound}
use Rattle.stores.proofs.Reached.{mod-permitted, mod-total}
use Rattle.stores.proofs.LeastLoad.{least-load}
use Rattle.stores.proofs.Tight.{not-true}
use Rattle.stores.proofs.Unique.{same-held}
use Rattle.stores.proofs.Unmarked.{unmarked-total}

pub marked-demand : (T : Trace) (marks : ℕ → Bool) (h d : ℕ) → segs T ≤ 256 → 0 < d → ((i : ℕ) → i < segs T → 0 < unit_of T i)
    → ((i : ℕ) → segs T ≤ i → T.start i ≡ false) → MarkedDemand T marks h d
marked-demand T marks h d few some_d some-unit warm =
    record {
      lower = λ p ok. marked-lower-bound T marks h d p ok few;
      permitted = mod-permitted T marks h d few;
      total = mod-total T marks h d few;
      least = λ p ok e. least-load T marks h d p ok few (omega (arith, e));
      holds = λ p ok e f t i lt l same y.
          sym (same-held T marks h d few some_d some-unit warm p ok (omega (arith, e)) (omega (arith, f)) t i lt l) ∙ y;
      unmarked = λ none. unmarked-total T marks none h d;
    }

-- one step of a segment costs something
some-unit : (kind : Kind) (z : ℕ) → 1 ≤ z → 0 < unit_cost kind z
some-unit Time z le = omega arith
some-unit Space z le = le

pub run-demand : (kind : Kind) (a : ℕ) (sizes warm refs : List ℕ) (marks : ℕ → Bool) (h d : ℕ) → RunWithin (run_of kind a sizes warm refs)
    → WarmWithin (length sizes) warm → 1 ≤ d → MarkedDemand (run_of kind a sizes warm refs) marks h d
run-demand kind a sizes warm refs marks h d ok within some_d =
    marked-demand (run_of kind a sizes warm refs) marks h d ok.segs_within some_d
    (λ i lt. some-unit kind _ (ok.some_size i lt))
    (λ i le. not-true (listed warm i) (λ y. omega (arith, warm-segment (length sizes) warm within i y)))
