-- A recorder in lists of numbers, as include/segtrace.h has it.
use Rattle.std.specs.Prelude.{ℕ, ◌+◌, min, cond, List, [], ◌∷◌, map, get_or, eqb, ltb}
use Rattle.model.specs.Sheets.{largest_a, most_steps}
use Rattle.model.specs.Sums.{tabulate}
use Rattle.model.specs.declared.Kind.{Kind}
use Rattle.model.specs.declared.Kind.TheVariants.{Time, Space}
use Rattle.buckets.specs.Buckets.{bucket_count}
use Rattle.c_lists.specs.Tables.{rows_of, bucket_in, sums_of}
use Rattle.recorder.specs.declared.Recorder.{Recorder}

-- kind time is 0
abbrev pub kind_in : ℕ → Kind
kind_in n = cond (eqb n 0) Time Space

-- a recorder in lists of numbers
pub record RecorderLists : Type 0 where
  pub head : List ℕ
  pub counts : List ℕ
  pub sizes : List ℕ
  pub holds : List ℕ
  pub h : List ℕ
  pub d : List ℕ
  pub last : List ℕ
  pub sums : List ℕ

-- the same from the lists
abbrev pub lists : (head counts sizes holds h d last sums : List ℕ) → RecorderLists
lists head counts sizes holds h d last sums =
    record { head = head; counts = counts; sizes = sizes; holds = holds; h = h; d = d; last = last; sums = sums }

-- the recorder that they hold, whatever the numbers are; a is cut off at 255
unfoldable pub recorder_in : RecorderLists → Recorder
recorder_in l =
    record {
      head =
          record {
            kind = kind_in (get_or l.head 0 0);
            a = min (get_or l.head 1 0) largest_a;
            segs = get_or l.head 2 0;
            sizes = l.sizes;
            rows = get_or l.head 3 0;
            prices = rows_of l.h l.d;
            warm = get_or l.head 4 0;
            holds = l.holds;
          };
      steps = get_or l.counts 0 0;
      last = l.last;
      buckets = tabulate bucket_count (bucket_in l.sums);
      cost = record { 0 = get_or l.counts 1 0 };
      volume = get_or l.counts 2 0;
    }

-- the number of a kind
abbrev pub kind_number : Kind → ℕ
kind_number Time = 0
kind_number Space = 1

-- the lists of a recorder: kind, a, segs, rows and warm; steps, Q and V; sizes; warm segments; prices; last touches; sums
unfoldable pub lists_of : Recorder → RecorderLists
lists_of R =
    record {
      head = kind_number R.head.kind ∷ R.head.a ∷ R.head.segs ∷ R.head.rows ∷ R.head.warm ∷ [];
      counts = R.steps ∷ R.cost.0 ∷ R.volume ∷ [];
      sizes = R.head.sizes;
      holds = R.head.holds;
      h = map (λ q. q.h) R.head.prices;
      d = map (λ q. q.d) R.head.prices;
      last = R.last;
      sums = sums_of R.buckets;
    }

-- lists with what a recorder has taken: its steps, Q and V, last touches and sums; the others stay
unfoldable pub with_taken : RecorderLists → Recorder → RecorderLists
with_taken l R =
    lists l.head (lists_of R).counts l.sizes l.holds l.h l.d (lists_of R).last (lists_of R).sums

-- the counts after an idle step: one step more, Q and V as they were; as they were where there are 2,048 steps
unfoldable pub idle_counts : List ℕ → List ℕ
idle_counts counts = cond (ltb (get_or counts 0 0) most_steps) ((get_or counts 0 0 + 1) ∷ get_or counts 1 0 ∷ get_or counts 2 0 ∷ []) counts
