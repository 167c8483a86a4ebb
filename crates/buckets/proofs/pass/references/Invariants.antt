-- `pass::references` meets its contract. The invariant of its loop is `Passing`.
use Prim.Native.Nat.{ℕ, ◌+◌, ◌*◌, ◌^◌, ◌≤◌}
use mathlib.Core.List.{List, ◌++◌}
use mathlib.Core.Path.{◌≡◌}
use lib.ListN.{length}
use Rattle.model.specs.Sheets.{RunWithin, run_of}
use Rattle.model.specs.declared.Kind.{Kind}
use Rattle.model.specs.declared.PriceRow.{PriceRow}
use Rattle.buckets.specs.declared.pass.Passed.{Passed}
use Rattle.buckets.specs.inner.Pass.{Roomy, passed_after}
use Rattle.buckets.specs.inner.Search.{RowsOf}
use Rattle.buckets.specs.declared.search.Prices.{Prices}
use Rattle.buckets.proofs.pass.references.Given as goal

-- after t of the references: what was passed from `from` on is what is passed after `steps` + t steps, and there is room for the others
pub record Passing (kind : Kind) (a : ℕ) (prices : Prices) (sizes : List ℕ) (steps : ℕ) (refs : List ℕ)
    (from to : Passed) (t : ℕ) : Type 0 where
  pub within : t ≤ length refs
  pub roomy : Roomy to.buckets (2 ^ 60 + t * 2 ^ 48)
  pub passed : (list : List PriceRow) → RowsOf prices list → (warm before : List ℕ) → length before ≡ steps
      → RunWithin (run_of kind a sizes warm (before ++ refs)) → from ≡ passed_after list (run_of kind a sizes warm (before ++ refs)) steps
      → to ≡ passed_after list (run_of kind a sizes warm (before ++ refs)) (steps + t)

abbrev pub invariant-loop-t : goal.invariant-loop-t
invariant-loop-t l =
    Passing l.kind l.a l.prices l.sizes l.steps l.refs (record { buckets = l.initial.buckets; last = l.initial.last })
    (record { buckets = l.buckets; last = l.last }) l.t
