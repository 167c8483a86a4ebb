-- `pass::tally` meets its contract: the pass starts with empty buckets and the table of the warm segments.
use borrow.Author.Rules.{rules}
use Prim.Native.Nat.{◌^◌}
use mathlib.Core.List.{[]}
use mathlib.Core.Path.{◌≡◌, refl, ap}
use native.Mathlib.Omega.{arith}
use lib.ListN.{length, take}
use Rattle.model.specs.Sheets.{run_of}
use Rattle.buckets.specs.Buckets.{tally_of}
use Rattle.buckets.specs.inner.Pass.{passed_of, passed_after}
use Rattle.buckets.specs.inner.Search.{RowsOf}
use Rattle.buckets.specs.declared.pass.Passed.{Passed}
use Rattle.buckets.proofs.Filling.{roomy-start, roomy-more}
use Rattle.buckets.proofs.Passing.{pass_start}
use Rattle.buckets.proofs.Prices.{prices-of}
use Rattle.buckets.proofs.pass.tally.Goals.{After-references-passed}
use Rattle.buckets.proofs.pass.tally.Goals as goal

-- the prices are those of the rows
of-rows : (c : After-references-passed) → RowsOf c.of-prices.result (take c.args.rows c.args.prices)
of-rows c =
    let whole : length c.args.prices ≡ 64 = search rules in
    prices-of _ _ _ (omega (arith, whole, c.requires.0)) c.requires.1 c.of-prices.ensures

-- the pass over all references
passed : (c : After-references-passed)
    → c.references-passed.result
    ≡ passed_of (take c.args.rows c.args.prices)
    (run_of c.args.kind c.args.a c.args.sizes.now c.args.warm.now c.args.refs.now)
passed c =
    c.references-passed.ensures _ (of-rows c) _ [] refl c.requires.2
    (pass_start _ _ _ (λ i. refl) _ _ c.empty_buckets.ensures c.start_table.ensures)

pub references-passed-requires : goal.references-passed-requires
references-passed-requires c =
    let run = c.requires.2 in record {
      roomy = rw c.empty_buckets.ensures (roomy-more _ 0 (2 ^ 60) (omega arith) roomy-start);
      few_segs = run.segs_within;
      few_steps = omega (arith, run.steps_within);
    }

pub ends-ended-requires : goal.ends-ended-requires
ends-ended-requires c = let run = c.requires.2 in (run.segs_within, search (rules, run.segs_within))

pub returns : goal.returns
unfolding tally_of passed_after
returns c =
    rw (
      ap (λ (x : Passed). x.buckets) (passed (goal.at.returns c).After-references-passed),
      c.ends-ended.ensures _ (of-rows (goal.at.returns c).After-references-passed) _ _ refl c.requires.2
          (ap (λ (x : Passed). x.last) (passed (goal.at.returns c).After-references-passed)),
    ) refl
