-- `reader::value_along` meets its contract: the reader goes past a line a turn.
use Rattle.std.proofs.Common.{ℕ, List, Bor, ap, ◌∙◌, add-one}
use Rattle.reader.specs.Along.{left_after}
use Rattle.reader.specs.Parts.{after_line}
use Rattle.reader.proofs.Places.{left_after_lem, left-more}
use Rattle.reader.proofs.value_along.Goals as goal

pub loop-init : goal.loop-init
unfolding left_after
loop-init c = record {
  same_bytes = ap (λ (b : Bor (List ℕ)). b.now) c.new-r.ensures.0;
  passed = rw c.new-r.ensures.1;
}

pub loop-preserved : goal.loop-preserved
loop-preserved c =
    let v = c.loop.invariant in
    let s = c.args.s.now in
    record {
      same_bytes = ap (λ (b : Bor (List ℕ)). b.now) c.next-r.ensures.0 ∙ v.same_bytes;
      passed =
          rw (c.next-r.ensures.1, v.same_bytes, add-one c.loop.counter)
          (left_after_lem s c.loop.r.at ∙ ap after_line v.passed ∙ left-more c.loop.counter s);
    }
