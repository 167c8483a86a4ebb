-- A recorder as one list of numbers, as include/segtrace.h has it: where each part stands, the list of a recorder, and the recorder that a
-- list holds, whatever its numbers are.
use Rattle.std.specs.Prelude.{ℕ, ◌+◌, ◌*◌, ◌%◌, min, ◌≡◌, List, [], ◌∷◌, ◌++◌, map, get_or, Result, Ok, Err}
use Rattle.model.specs.Sheets.{SheetValue, Valid, largest_a, most_segs, most_rows}
use Rattle.model.specs.Sums.{tabulate}
use Rattle.model.specs.declared.PriceRow.{PriceRow}
use Rattle.model.specs.declared.Refusal.{Refusal}
use Rattle.buckets.specs.Buckets.{bucket_count}
use Rattle.buckets.specs.declared.Bucket.{Bucket}
use Rattle.c_lists.specs.Recorders.{kind_in, kind_number}
use Rattle.c_lists.specs.Tables.{bucket_from, sums_of}
use Rattle.recorder.specs.Recorders.{recorder_of}
use Rattle.recorder.specs.declared.Recorder.{Recorder}

-- the places: kind, a, how many segments, rows and warm segments, the steps taken, Q and V
abbrev pub at_kind : ℕ
at_kind = 0

abbrev pub at_a : ℕ
at_a = 1

abbrev pub at_segs : ℕ
at_segs = 2

abbrev pub at_rows : ℕ
at_rows = 3

abbrev pub at_warm : ℕ
at_warm = 4

abbrev pub at_steps : ℕ
at_steps = 5

abbrev pub at_cost : ℕ
at_cost = 6

abbrev pub at_volume : ℕ
at_volume = 7

-- and from where on stand the sizes, the prices h, the prices d, the warm segments, the last touches and the sums; and the list's length
abbrev pub at_sizes : ℕ
at_sizes = 8

abbrev pub at_h : ℕ
at_h = 264

abbrev pub at_d : ℕ
at_d = 328

abbrev pub at_holds : ℕ
at_holds = 392

abbrev pub at_last : ℕ
at_last = 648

abbrev pub at_sums : ℕ
at_sums = 904

abbrev pub list_length : ℕ
list_length = 1294

-- the list of a recorder
unfoldable pub list_of : Recorder → List ℕ
list_of R =
    (kind_number R.head.kind ∷ R.head.a ∷ R.head.segs ∷ R.head.rows ∷ R.head.warm ∷ R.steps ∷ R.cost.0 ∷ R.volume ∷ [])
    ++ R.head.sizes
    ++ map (λ q. q.h) R.head.prices
    ++ map (λ q. q.d) R.head.prices
    ++ R.head.holds
    ++ R.last
    ++ sums_of R.buckets

-- the number at a place of a list, of which 16 bits count; n such numbers from a place on
abbrev pub short_in : List ℕ → ℕ → ℕ
short_in l at = get_or l at 0 % 65536

abbrev pub shorts_in : List ℕ → ℕ → ℕ → List ℕ
shorts_in l at n = tabulate n (λ i. short_in l (at + i))

-- row r, and bucket k, of a list
abbrev pub row_of : List ℕ → ℕ → PriceRow
row_of l r = record { h = short_in l (at_h + r); d = short_in l (at_d + r) }

abbrev pub bucket_at : List ℕ → ℕ → Bucket
bucket_at l k = bucket_from l (at_sums + 6 * k)

-- the recorder that a list holds: a is cut off at 255
unfoldable pub recorder_at : List ℕ → Recorder
recorder_at l =
    record {
      head =
          record {
            kind = kind_in (get_or l at_kind 0);
            a = min (get_or l at_a 0) largest_a;
            segs = get_or l at_segs 0;
            sizes = shorts_in l at_sizes most_segs;
            rows = get_or l at_rows 0;
            prices = tabulate most_rows (row_of l);
            warm = get_or l at_warm 0;
            holds = shorts_in l at_holds most_segs;
          };
      steps = get_or l at_steps 0;
      last = shorts_in l at_last most_segs;
      buckets = tabulate bucket_count (bucket_at l);
      cost = record { 0 = get_or l at_cost 0 };
      volume = get_or l at_volume 0;
    }

-- what a call that a list's recorder judges by a verdict leaves of the list: refused, the list is as it was, whatever its numbers are; the
-- list of a recorder that stands for a sheet is, accepted, that of the recorder that stands for the next one
pub record Changed (verdictOf : Recorder → Result (Unit {0}) Refusal) (next : SheetValue → SheetValue) (l l' : List ℕ) : Type 0 where
  pub unchanged : (why : Refusal) → verdictOf (recorder_at l) ≡ Err why → l' ≡ l
  pub stands : (v : SheetValue) → Valid v → l ≡ list_of (recorder_of v) → verdictOf (recorder_at l) ≡ (Ok tt)
      → l' ≡ list_of (recorder_of (next v))
