-- Of the recorder that stands for a sheet: the counts of its buckets add up to its references; and from the sheet's head on it takes the
-- sheet's references where every step has one.
use Rattle.std.specs.Prelude.{Ok}
use Prim.Native.Nat.{ℕ, ◌<◌}
use mathlib.Core.Path.{◌≡◌, refl, ◌∙◌}
use native.Mathlib.Omega.{arith}
use lib.ListN.{length, get_or}
use Rattle.model.specs.Sums.{sum}
use Rattle.model.specs.Traces.{segs, entry, refs_of}
use Rattle.model.specs.Sheets.{SheetValue, Valid, trace_of}
use Rattle.model.proofs.Lists.{get_or-any}
use Rattle.buckets.specs.Buckets.{bucket_count, tally_of, no_bucket}
use Rattle.figures.proofs.Filed.{counts_add_up}
use Rattle.recorder.specs.Recorders.{recorder_of, started, touch_all_verdict}
use Rattle.recorder.proofs.Standing.{started-valid}
use Rattle.recorder.proofs.Bulk.{verdict-of, takable-accepted}

-- the counts of the buckets add up to the references
pub counts_are : (v : SheetValue) → Valid v → sum bucket_count (λ k. (get_or (recorder_of v).buckets k no_bucket).count)
    ≡ refs_of (trace_of v)
unfolding recorder_of tally_of
counts_are v valid = counts_add_up v.head.rows valid.rows (trace_of v)

-- a sheet's references are all accepted, from its head on, where every step has one
pub sheet-accepted : (v : SheetValue) → Valid v → ((t : ℕ) → t < length v.entries → entry (trace_of v) t < segs (trace_of v))
    → touch_all_verdict (recorder_of (started v)) v.entries ≡ (Ok (tt {0}))
sheet-accepted v valid whole =
    verdict-of (recorder_of (started v)) v.entries (started v) (started-valid v valid) refl
    ∙ takable-accepted (length v.head.sizes) 0 v.entries
    (record {
      segments = λ t lt. rw (get_or-any v.entries t 0 (length v.head.sizes) lt) (whole t lt);
      room = λ t lt. omega (arith, valid.run.steps_within);
    })
