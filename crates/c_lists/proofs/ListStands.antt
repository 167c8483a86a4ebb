-- The list of a recorder that stands for a sheet: what it tells, and that after a reference taken it is the list of the recorder that
-- stands for the sheet with it.
use Prim.Native.Nat.{ℕ, zero, suc, ◌+◌, ◌-◌, ◌%◌, ◌<◌, ◌≤◌, min}
use mathlib.Core.Path.{◌≡◌, refl, sym, ap, ◌∙◌}
use mathlib.Core.Bool.{Bool, true, false}
use mathlib.Core.List.{List, ◌++◌}
use mathlib.Core.Option.{Option, none, some}
use native.Mathlib.Omega.{arith}
use lib.Dec.{ltb}
use lib.ListN.{length, get_or, drop, replicate, length-append, length-drop, length-replicate, get_or-append, get_or-eq_default}
use lib.Seq.{get_or-append-add, get_or-drop}
use borrow.Author.Tests.{ltb-true, ltb-false}
use Rattle.model.specs.Costs.{unit_cost}
use Rattle.model.specs.LastTouches.{last_from, last_table}
use Rattle.model.specs.Sheets.{SheetValue, Valid, trace_of, row_in, largest_a, most_segs, most_rows, most_steps}
use Rattle.model.specs.Traces.{unreferenced}
use Rattle.model.specs.Values.{padded, zeros, zero_rows, head_of}
use Rattle.model.specs.declared.PriceRow.{PriceRow}
use Rattle.model.proofs.Tables.{length-tabulate, get_or-tabulate, tabulate-eq}
use Rattle.buckets.specs.Buckets.{bucket_count, no_bucket}
use Rattle.buckets.specs.inner.Pass.{touch_of, with_touch, Limited}
use Rattle.buckets.specs.inner.Search.{in_places, time_since}
use Rattle.buckets.specs.declared.pass.Touch.{Touch}
use Rattle.figures.proofs.Limits.{cost_within, volume_within}
use Rattle.recorder.specs.Recorders.{recorder_of, taken}
use Rattle.recorder.proofs.Standing.{front, few-warm, standing-roomy}
use Rattle.recorder.proofs.Stepping.{Stepped, stepped-stands}
use Rattle.c_lists.specs.RecorderList.{list_of, short_in, bucket_at, at_a, at_sizes, at_h, at_d, at_last}
use Rattle.c_lists.specs.Recorders.{kind_in}
use Rattle.c_lists.specs.inner.InPlace.{RowsIn, touch_in, Room, IsTaken}
use Rattle.c_lists.proofs.RecorderLists.{kind-again}
use Rattle.c_lists.proofs.ListParts.{Sized, last-at, h-at, d-at, size-at, bucket_is, kind_at, cost-at, volume-at}
use Rattle.c_lists.proofs.ListParts.{filed_in, marked_in, taken-list}

-- blanks, and an entry of a list at the front of them
blank : {A : Type 0} (d : A) (n m : ℕ) → get_or (replicate n d) m d ≡ d
blank d zero m = refl
blank d (suc n) zero = refl
blank d (suc n) (suc m) = blank d n m

module _ {A : Type 0} (xs : List A) (d : A) (n : ℕ) where
  padded-length : length xs ≤ n → length (padded xs (replicate n d)) ≡ n
  unfolding padded
  padded-length le =
      omega (
        arith,
        length-append xs (drop (length xs) (replicate n d)),
        length-drop (length xs) (replicate n d),
        length-replicate n d,
      )

  pub padded-entry : (i : ℕ) → get_or (padded xs (replicate n d)) i d ≡ get_or xs i d
  unfolding padded
  padded-entry i = go (ltb i (length xs)) refl
    where
      go : (b : Bool) → ltb i (length xs) ≡ b → get_or (xs ++ drop (length xs) (replicate n d)) i d ≡ get_or xs i d
      go true e = get_or-append xs (drop (length xs) (replicate n d)) d i (ltb-true i (length xs) e)
      go false e =
          let le = ltb-false i (length xs) e in
          let j = i - length xs in
          let same : i ≡ length xs + j = omega arith in
          rw same
          (get_or-append-add xs (drop (length xs) (replicate n d)) j d
          ∙ get_or-drop (length xs) (replicate n d) j d
          ∙ blank d n (length xs + j)
          ∙ sym (get_or-eq_default xs d (omega arith)))

-- a number of 16 bits
short-is : (n m : ℕ) → n ≡ m → m < 65536 → n % 65536 ≡ m
short-is n m e lt = omega arith

-- an entry of a list whose entries are small, at any place
all_small : (xs : List ℕ) → ((i : ℕ) → i < length xs → get_or xs i 0 < 65536) → (i : ℕ) → get_or xs i 0 < 65536
all_small xs each i = go (ltb i (length xs)) refl
  where
    go : (b : Bool) → ltb i (length xs) ≡ b → get_or xs i 0 < 65536
    go true e = each i (ltb-true i (length xs) e)
    go false e = omega (arith, get_or-eq_default xs 0 (ltb-false i (length xs) e))

mark-small : (n : ℕ) → n ≤ most_steps → (o : Option ℕ) → last_from n o < 65536
mark-small n le none = omega arith
mark-small n le (some k) = omega arith

module _ (v : SheetValue) (valid : Valid v) where
  pub sized : Sized (recorder_of v)
  unfolding recorder_of head_of zeros zero_rows last_table
  sized =
      record {
        sizes_many = padded-length v.head.sizes 0 most_segs valid.run.segs_within;
        prices_many = padded-length v.head.rows (record { h = 0; d = 0 }) most_rows valid.rows.rows_within;
        holds_many = padded-length v.head.warm 0 most_segs (few-warm v valid);
        last_many = length-tabulate most_segs _;
        buckets_many = length-tabulate bucket_count _;
      }

  -- the numbers of its list are those of the sheet
  pub size_is : (i : ℕ) → i < most_segs → short_in (list_of (recorder_of v)) (at_sizes + i) ≡ get_or v.head.sizes i 0
  unfolding recorder_of head_of zeros
  size_is i lt =
      short-is _ _ (size-at (recorder_of v) sized i lt ∙ padded-entry v.head.sizes 0 most_segs i)
      (all_small v.head.sizes (λ j l. omega (arith, valid.run.size_within j l)) i)

  pub mark-is : (i : ℕ) → i < most_segs → short_in (list_of (recorder_of v)) (at_last + i) ≡ get_or (recorder_of v).last i 0
  unfolding recorder_of last_table
  mark-is i lt =
      let n = length v.entries in
      let f : ℕ → ℕ = λ j. last_from n (unreferenced (trace_of v) n j) in
      short-is _ _ (last-at (recorder_of v) sized i lt)
      (rw (get_or-tabulate most_segs f i 0 lt) (mark-small n valid.run.steps_within (unreferenced (trace_of v) n i)))

  -- its prices are those of the rows
  h-small : (r : ℕ) → (row_in v.head.rows r).h < 65536
  h-small r = go (ltb r (length v.head.rows)) refl
    where
      go : (b : Bool) → ltb r (length v.head.rows) ≡ b → (row_in v.head.rows r).h < 65536
      go true e = omega (arith, valid.rows.h_within r (ltb-true r (length v.head.rows) e))
      go false e =
          rw (get_or-eq_default v.head.rows (record { h = 0; d = 0 }) (ltb-false r (length v.head.rows) e)) (omega arith)

  d_small : (r : ℕ) → (row_in v.head.rows r).d < 65536
  d_small r = go (ltb r (length v.head.rows)) refl
    where
      go : (b : Bool) → ltb r (length v.head.rows) ≡ b → (row_in v.head.rows r).d < 65536
      go true e = omega (arith, valid.rows.d_within r (ltb-true r (length v.head.rows) e))
      go false e =
          rw (get_or-eq_default v.head.rows (record { h = 0; d = 0 }) (ltb-false r (length v.head.rows) e)) (omega arith)

  pub h-is : (r : ℕ) → r < most_rows → short_in (list_of (recorder_of v)) (at_h + r) ≡ (row_in v.head.rows r).h
  unfolding recorder_of head_of zero_rows
  h-is r lt =
      short-is _ _
      (h-at (recorder_of v) sized r lt
      ∙ ap (λ (q : PriceRow). q.h) (padded-entry v.head.rows (record { h = 0; d = 0 }) most_rows r))
      (h-small r)

  pub d-is : (r : ℕ) → r < most_rows → short_in (list_of (recorder_of v)) (at_d + r) ≡ (row_in v.head.rows r).d
  unfolding recorder_of head_of zero_rows
  d-is r lt =
      short-is _ _
      (d-at (recorder_of v) sized r lt
      ∙ ap (λ (q : PriceRow). q.d) (padded-entry v.head.rows (record { h = 0; d = 0 }) most_rows r))
      (d_small r)

  rows_at : get_or (list_of (recorder_of v)) 3 0 ≡ length v.head.rows
  unfolding list_of recorder_of head_of
  rows_at = refl

  rows_in : RowsIn (list_of (recorder_of v)) v.head.rows
  unfolding in_places
  rows_in =
      record {
        priced = tabulate-eq most_rows _ _ (λ r lt. rw (h-is r lt, d-is r lt) refl);
        within = valid.rows;
        counted = sym rows_at;
      }

  a_at : min (get_or (list_of (recorder_of v)) at_a 0) largest_a ≡ v.head.a
  unfolding list_of recorder_of head_of
  a_at = let cut : min v.head.a 255 ≡ v.head.a = omega (arith, valid.run.a_within) in cut

  kind-is : kind_in (get_or (list_of (recorder_of v)) 0 0) ≡ v.head.kind
  unfolding recorder_of head_of
  kind-is = rw (kind_at (recorder_of v)) (kind-again v.head.kind)

  -- the touch of segment i that it tells
  abbrev touch_now : ℕ → Touch
  touch_now i =
      touch_of v.head.kind v.head.a v.head.rows (get_or v.head.sizes i 0)
      (time_since (length v.entries) (get_or (recorder_of v).last i 0))

  touch_is : (i : ℕ) → i < most_segs → touch_in (list_of (recorder_of v)) v.head.rows i (length v.entries) ≡ touch_now i
  touch_is i lt = rw (kind-is, a_at, size_is i lt, mark-is i lt) refl

  -- there is room in it
  room : (k : ℕ) → k < bucket_count
      → Room (bucket_at (list_of (recorder_of v)) k) (get_or (list_of (recorder_of v)) 6 0) (get_or (list_of (recorder_of v)) 7 0)
  unfolding recorder_of
  room k lt =
      rw (bucket_is (recorder_of v) sized k, cost-at (recorder_of v), volume-at (recorder_of v))
      (record {
        sums = (standing-roomy v valid).each k (omega arith);
        cost_room = omega (arith, cost_within (trace_of v) valid.run);
        volume_room = omega (arith, volume_within (trace_of v) valid.run);
      })

  segs-few : (i : ℕ) → i < length v.head.sizes → i < min (recorder_of v).head.segs most_segs
  unfolding recorder_of head_of
  segs-few i lt = omega (arith, valid.run.segs_within)

  steps-few : length v.entries < most_steps → (recorder_of v).steps < most_steps
  unfolding recorder_of
  steps-few few = few

  -- after a reference is taken it is the list of the recorder that stands for the sheet with it
  stepped : (i : ℕ) → i < most_segs → Limited (touch_now i)
      → Stepped (recorder_of v) i (marked_in (filed_in (recorder_of v) (touch_now i)) i (length v.entries + 1))
  unfolding recorder_of head_of zeros touch_of
  stepped i lt limited =
      let n = min (length v.head.rows) most_rows in
      let all = front v.head.rows (zero_rows most_rows) n most_rows valid.rows.rows_within refl in
      let size = padded-entry v.head.sizes 0 most_segs i in
      record {
        count = n;
        touch = touch_now i;
        bucket = with_touch (get_or (recorder_of v).buckets (touch_now i).bucket no_bucket) (touch_now i);
        unit = unit_cost v.head.kind (get_or v.head.sizes i 0);
        cost = (recorder_of v).cost.0 + unit_cost v.head.kind (get_or v.head.sizes i 0);
        volume = (recorder_of v).volume + get_or v.head.sizes i 0;
        count_is = refl;
        limited = limited;
        touch_is = λ up. rw (all, size) refl;
        bucket_is = λ within. refl;
        unit_is = rw size refl;
        cost_is = λ few small. refl;
        volume_is = λ few small. rw size refl;
        next_is = refl;
      }

  pub take-stands : (i : ℕ) → i < length v.head.sizes → length v.entries < most_steps → (l : List ℕ)
      → IsTaken (list_of (recorder_of v)) i (length v.entries) l → l ≡ list_of (recorder_of (taken v i))
  take-stands i lt few l is =
      let R = recorder_of v in
      let within : i < most_segs = omega (arith, valid.run.segs_within) in
      let told = is v.head.rows rows_in in
      let e = touch_is i within in
      let limited : Limited (touch_now i) = rw e at told.0 in
      let k-few : (touch_now i).bucket < bucket_count = omega (arith, limited.is_bucket) in
      let next = told.1 (rw e (room (touch_now i).bucket k-few)) in
      let listed = taken-list R sized (touch_now i) i (length v.entries + 1) k-few within in
      let stands = stepped-stands R _ i (segs-few i lt) (steps-few few) (stepped i within limited) v valid refl in
      next ∙ rw e (listed ∙ ap list_of stands)
