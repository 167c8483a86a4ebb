-- What request F-11 says holds of every run with at most 256 segments, idle steps and any start set among them.
use Prim.Native.Nat.{suc, ◌≤◌}
use native.Mathlib.Omega.{arith}
use Rattle.model.specs.Traces.{Trace, segs}
use Rattle.points.specs.Curve.{Curve}
use Rattle.points.proofs.Between.{found, kept-between, memory-between, load_between}
use Rattle.points.proofs.Lines.{load_drops, memory_rises, on-or-above}
use Rattle.points.proofs.Thresholds.{thresholds-ascending, thresholds-have, thresholds-of-run, thresholds-first, thresholds-within}

pub curve : (T : Trace) → segs T ≤ 256 → Curve T
curve T few =
    record {
      ascending = λ k lt. thresholds-ascending T k (suc k) (omega arith) lt;
      complete = thresholds-have T;
      of_run = thresholds-of-run T;
      some_entry = (thresholds-first T).some_entry;
      zero_first = (thresholds-first T).zero_first;
      place = thresholds-within T;
      found = found T;
      decisions = λ k h d f. kept-between T k h d f.there f.price f.from f.to;
      memory = λ k h d f. memory-between T k h d f.there f.price f.from f.to;
      loads = λ k h d f. load_between T k h d f.there f.price f.from f.to;
      memory_rises = memory_rises T;
      load_drops = load_drops T;
      lines = λ k lt p ok. on-or-above T k lt p ok few;
    }
