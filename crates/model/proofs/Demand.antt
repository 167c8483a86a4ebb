-- Demand 3 holds of every row of every sheet's value with at most 256 segments.
use Prim.Native.Nat.{ℕ, ◌≤◌, ◌<◌}
use native.Mathlib.Omega.{arith}
use lib.ListN.{length}
use Rattle.model.specs.Demand.{Demand3}
use Rattle.model.specs.Sheets.{SheetValue, most_segs, trace_of, row_at}
use Rattle.model.proofs.LowerBound.{schedule-lower-bound}
use Rattle.model.proofs.LeastLoad.{least-load}
use Rattle.model.proofs.Optimal.{optimal-permitted, optimal-memory, optimal-load, optimal-total}

pub demand-3 : (s : SheetValue) → length s.head.sizes ≤ most_segs → (r : ℕ) → r < length s.head.rows → Demand3 s r
demand-3 s few r lt =
    let T = trace_of s in
    let h = (row_at s r).h in
    let d = (row_at s r).d in
    record {
      lower = λ p ok. schedule-lower-bound T h d p ok few;
      least = λ p ok e. least-load T h d p ok few (omega (arith, e));
      permitted = optimal-permitted T h d few;
      memory = optimal-memory T h d few;
      load = optimal-load T h d few;
      total = optimal-total T h d few;
    }
