-- `buckets::search::bucket` meets its contract.
use native.Mathlib.Omega.{arith}
use Rattle.buckets.proofs.Prices.{prices-of}
use Rattle.buckets.proofs.search.bucket.Goals as goal

pub returns : goal.returns
returns c =
    record {
      within = c.bucket_of.ensures.within;
      exact = λ up.
          c.bucket_of.ensures.exact _
          (prices-of _ _ _ (omega (arith, c.well_formed, c.requires.rows_le_most_rows)) up c.of.ensures);
    }
