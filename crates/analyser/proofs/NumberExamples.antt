-- Which number each call answers, what it gives, and the zeros of a refused one, on small sheets worked by hand from documents 01 and 02.
use Rattle.std.specs.Prelude.{Result, Ok, Err}
use Rattle.model.specs.declared.Refusal.{Refusal}
use Prim.Native.Nat.{ℕ}
use Prim.Native.String.{String}
use mathlib.Core.Path.{◌≡◌, refl}
use mathlib.Core.List.{List, [], ◌∷◌, ◌++◌, map}
use lib.IntN.{ℤ, pos, negsuc}
use lib.ListN.{replicate}
use Rattle.decimal.specs.Decimal.{all_digits, value_from, is_number, written_in, written}
use Rattle.text.specs.Texts.{lines_text}
use Rattle.text.proofs.Strings.{bytes}
use Rattle.model.specs.Figures.{misses, volume, load, optmem, opttotal, optocc, wsmem, wsocc, wsspace, mean}
use Rattle.model.specs.Figures.{kept, ref_cost, ref_volume, smaller}
use Rattle.model.specs.Decisions.{held_byte, held_bytes}
use Rattle.model.specs.Places.{answer_for, place_for, placed, place_answer}
use Rattle.model.specs.Refusals.{number_of, verdict_number, value_or_zero}
use Rattle.model.specs.Rows.{row_figures}
use Rattle.model.specs.Schedules.{held, schedule_memory, schedule_load, schedule_total, next_kept, optimal_held, optimal_byte}
use Rattle.model.specs.Schedules.{optimal_schedule}
use Rattle.model.specs.Sheets.{listed}
use Rattle.model.specs.Sizing.{chosen_of}
use Rattle.model.specs.Sums.{sum, tabulate}
use Rattle.model.specs.Traces.{touching, refs_by, ref_place, later, unreferenced}
use Rattle.model.specs.Values.{head_of, empty_head}
use Rattle.model.specs.declared.RowFigures.{RowFigures}
use Rattle.sheet.specs.Lines.{same_bytes, split_at, after_key, value_line, number_line, number_lines}
use Rattle.sheet.specs.Order.{sizes_part, prices_part, warm_part, tables_part, head_part, refs_part, plain_part, steps_part, run_part}
use Rattle.sheet.specs.Order.{body_part}
use Rattle.sheet.specs.Order.{sheet_part}
use Rattle.sheet.specs.Reading.{named_form, read_forms}
use Rattle.sheet.specs.Touches.{touch_line, touch_lines, placed_from, touches_from}
use Rattle.sheet.specs.Values.{kind_line, row_line, row_lines}
use Rattle.sheet.specs.Warm.{hold_line, hold_lines}
use Rattle.sheet.specs.Writing.{sheet_text}
use Rattle.model.specs.RowAnswers.{figures_of, figures_given}
use Rattle.stores.specs.Modtotal.{since_mark, joins_before, next_marked, mod_held, mod_schedule}
use Rattle.stores.specs.Stays.{all, any, every_step, some_step, held_before, held_after, is_stay, modifies_in, is_modified_stay, stores_of}
use Rattle.stores.specs.Stays.{marked_load, marked_total}
use Rattle.model.specs.Pricing.{missing, enters, some_enters, step_verdict, steps_verdict, price_given}
use Rattle.model.specs.Pricing.{schedule_verdict}
use Rattle.stores.specs.Plans.{schedule_for, modified_for, priced_at, price_for}
use Rattle.model.specs.Margins.{touch_margin, margin_for}
use Rattle.tariff.specs.Tariff.{bill_of}
use Rattle.tariff.specs.Billing.{row_bill, bill_for}
use Rattle.sheet.specs.Forms.{some_idle}
use Rattle.joint.specs.Joint.{same_rows, same_heads, both_touch, joint_refs, joint_head, joined as joint}
use Rattle.joint.specs.Joining.{join_of}
use Rattle.din.specs.Lines.{trace_lines, digit_of, address_of, all_digits as hexDigits, value_from as hexValue}
use Rattle.din.specs.Pages.{place_in, with_page, firsts_after, firsts, segments_of, too_many, touched_from, touched_by, touched_with}
use Rattle.din.specs.Import.{imported}
use Rattle.replacement.specs.Orders.{without, place_of}
use Rattle.replacement.specs.Recency.{recency, distance, lru_misses, entries_looked}
use Rattle.replacement.specs.Memory.{has, least_recent, replaced, swapped, reloaded, memory, lru_simulated}
use Rattle.replacement.specs.Answers.{all_ones, ones_verdict}
use Rattle.replacement.specs.Answers.{curve_for, plain_for}
use Rattle.windows.specs.Answers.{time_zero, wsoccs, windows_for}
use Rattle.points.specs.Points.{insert, ratios, thresholds, point_numbers, operating_points}
use Rattle.points.specs.Answers.{points_for}
use Rattle.listing.specs.RowListing.{row_listing, mod_listing, rows_listing}
use Rattle.listing.specs.Listing.{steps_listing, listing_of, listing as listingText}
use Rattle.recorder.specs.Recorders.{recorder_of, empty_recorder}
use Rattle.analyser.specs.Figures.{figures_answer}
use Rattle.analyser.specs.Texts.{listing_result, page_result}
use Rattle.analyser.specs.Schedules.{schedule_result, pricing}
use Rattle.analyser.specs.Figures.{margin_answer, size_answer, bill_answer}
use Rattle.analyser.specs.Sheets.{to_form_2_result, to_form_1_result}
use Rattle.analyser.specs.Curves.{lru_result, lru_plain_result, lru_looked}
use Rattle.analyser.specs.Sheets.{import_result}
use Rattle.analyser.specs.Sheets.{join_result}
use Rattle.analyser.specs.Schedules.{modified_result}
use Rattle.analyser.specs.Curves.{points_result}
use Rattle.analyser.specs.Recording.{start_answer}
use Rattle.analyser.specs.Curves.{windows_result}

-- ---- the sheets

-- document 01's
listing : List ℕ
listing =
    bytes "kind=space\na=1\nsegs=2\nsize=1\nsize=3\nrows=2\nrow=1/2\nrow=1/1\nrefs=6\nref=0\nref=1\nref=0\nref=1\nref=1\nref=0\n"

-- one of each form, of kind time with two segments of size 1 and the row 1/2
unit1 : List ℕ
unit1 = bytes "kind=time\na=0\nsegs=2\nsize=1\nsize=1\nrows=1\nrow=1/2\nrefs=1\nref=0\n"

unit2 : List ℕ
unit2 = bytes "form=2\nkind=time\na=0\nsegs=2\nsize=1\nsize=1\nrows=1\nrow=1/2\nsteps=2\nrefs=1\nref=0@2\n"

unit3 : List ℕ
unit3 = bytes "form=3\nkind=time\na=0\nsegs=2\nsize=1\nsize=1\nrows=1\nrow=1/2\nwarm=1\nhold=1\nsteps=2\nrefs=1\nref=0@2\n"

unit4 : List ℕ
unit4 =
    bytes "form=4\nkind=time\na=0\nsegs=2\nsize=1\nsize=1\nrows=1\nrow=1/2\nwarm=0\nsteps=4\nrefs=4\n"
    ++ bytes "ref=0@1w\nref=1@2\nref=1@3\nref=0@4w\n"

-- size 2 and warm; the same of kind space; kind time with a = 1
two : List ℕ
two = bytes "form=3\nkind=time\na=0\nsegs=1\nsize=2\nrows=1\nrow=1/2\nwarm=1\nhold=0\nsteps=1\nrefs=1\nref=0@1\n"

space : List ℕ
space = bytes "form=3\nkind=space\na=0\nsegs=1\nsize=2\nrows=1\nrow=1/2\nwarm=1\nhold=0\nsteps=1\nrefs=1\nref=0@1\n"

weighted : List ℕ
weighted = bytes "kind=time\na=1\nsegs=1\nsize=2\nrows=1\nrow=1/2\nrefs=1\nref=0\n"

-- the largest a and size: w is 1,044,226
heavy : List ℕ
heavy = bytes "kind=time\na=255\nsegs=1\nsize=4095\nrows=1\nrow=1/1\nrefs=1\nref=0\n"

-- one that is refused with 3
bad : List ℕ
bad = bytes "kind=tim\n"

-- the number of a result in a place that is long enough: 0 where it is given
number : Result (List ℕ) Refusal → ℕ
number (Ok l) = 0
number (Err r) = number_of r

-- ---- figures: the sheet's refusals, 7

figure-numbers : verdict_number (figures_answer listing 0) ∷ verdict_number (figures_answer listing 1)
    ∷ verdict_number (figures_answer listing 2) ∷ verdict_number (figures_answer bad 2)
    ∷ map (λ s. verdict_number (figures_answer s 0)) ([] ∷ unit1 ∷ unit2 ∷ unit3 ∷ unit4 ∷ [])
    ≡ 0 ∷ 0 ∷ 7 ∷ 3 ∷ 2 ∷ 0 ∷ 0 ∷ 0 ∷ 0 ∷ []
unfolding bytes listing bad unit1 unit2 unit3 unit4 figures_answer figures_of same_bytes all_digits value_from is_number split_at
    after_key value_line number_line number_lines sizes_part prices_part warm_part tables_part head_part refs_part plain_part steps_part
    run_part body_part sheet_part named_form read_forms touch_line touch_lines placed_from kind_line row_line row_lines hold_line
    hold_lines
figure-numbers = refl

-- the eleven figures as numbers
figure_list : RowFigures → List ℕ
figure_list f =
    f.h ∷ f.d ∷ f.misses ∷ f.volume ∷ f.load.0 ∷ f.optmem.0 ∷ f.opttotal ∷ f.optocc ∷ f.wsmem ∷ f.wsocc ∷ f.mean ∷ []

-- row 0 of document 01's sheet; zeros for a row that there is not, and for a sheet that is refused
figure-parts : figure_list (figures_given (figures_answer listing 0)) ++ figure_list (figures_given (figures_answer listing 2))
    ++ figure_list (figures_given (figures_answer bad 0))
    ≡ (1 ∷ 2 ∷ 4 ∷ 8 ∷ 12 ∷ 13 ∷ 38 ∷ 13 ∷ 36 ∷ 36 ∷ 3000 ∷ []) ++ replicate 22 0
unfolding bytes listing bad figure_list figures_answer figures_of same_bytes all_digits value_from is_number split_at after_key value_line
    number_line number_lines sizes_part prices_part warm_part tables_part head_part refs_part plain_part steps_part run_part body_part
    sheet_part named_form read_forms touch_line touch_lines placed_from kind_line row_line row_lines hold_line hold_lines misses volume
    load optmem opttotal optocc wsmem wsocc wsspace mean kept ref_cost ref_volume smaller row_figures sum tabulate touching refs_by later
    unreferenced listed
figure-parts = refl

-- ---- the listing and the page in a lent place: the sheet's refusals, then 11

-- what is answered for a place, the number and the length, and what the place is afterwards
left : Result (List ℕ) Refusal → List ℕ → List ℕ
left result place = verdict_number (answer_for result place) ∷ value_or_zero 0 (answer_for result place) ∷ place_for result place

-- in a place of two bytes: 11, nothing written, the bytes stay; so they do beside the sheet's refusal, which comes before 11
short-place : left (listing_result listing) (7 ∷ 9 ∷ []) ++ left (listing_result bad) (7 ∷ 9 ∷ []) ≡ 11 ∷ 0 ∷ 7 ∷ 9 ∷ 3 ∷ 0 ∷ 7 ∷ 9 ∷ []
unfolding bytes listing bad left listing_result placed place_answer same_bytes all_digits value_from is_number split_at after_key
    value_line number_line number_lines sizes_part prices_part warm_part tables_part head_part refs_part plain_part steps_part run_part
    body_part sheet_part named_form read_forms touch_line touch_lines placed_from kind_line row_line row_lines hold_line hold_lines
    written_in written misses volume load optmem opttotal optocc wsmem wsocc wsspace mean kept ref_cost ref_volume smaller row_figures sum
    tabulate touching refs_by later unreferenced listed row_listing mod_listing rows_listing steps_listing listingText listing_of
short-place = refl

-- every form
listed-forms : map (λ s. number (listing_result s)) (listing ∷ unit2 ∷ unit3 ∷ unit4 ∷ bad ∷ [])
    ++ map (λ s. number (page_result s)) (listing ∷ unit2 ∷ unit3 ∷ unit4 ∷ bad ∷ [])
    ≡ 0 ∷ 0 ∷ 0 ∷ 0 ∷ 3 ∷ 0 ∷ 0 ∷ 0 ∷ 0 ∷ 3 ∷ []
unfolding bytes listing unit2 unit3 unit4 bad number listing_result page_result same_bytes all_digits value_from is_number split_at
    after_key value_line number_line number_lines sizes_part prices_part warm_part tables_part head_part refs_part plain_part steps_part
    run_part body_part sheet_part named_form read_forms touch_line touch_lines placed_from kind_line row_line row_lines hold_line
    hold_lines
listed-forms = refl

-- ---- schedules

-- so many steps, each given by its first byte
schedule : List ℕ → List ℕ
schedule [] = []
schedule (b ∷ bs) = (b ∷ replicate 31 0) ++ schedule bs

-- the optimal schedule of the row 1/2, whole (P3)
optimal : schedule_result listing 0 ≡ Ok (schedule (1 ∷ 3 ∷ 1 ∷ 2 ∷ 2 ∷ 1 ∷ []))
unfolding bytes listing schedule schedule_result schedule_for same_bytes all_digits value_from is_number split_at after_key value_line
    number_line number_lines sizes_part prices_part warm_part tables_part head_part refs_part plain_part steps_part run_part body_part
    sheet_part named_form read_forms touch_line touch_lines placed_from kind_line row_line row_lines hold_line hold_lines sum tabulate
    touching refs_by later unreferenced listed kept next_kept optimal_held optimal_byte optimal_schedule
optimal = refl

-- that of form 4: segment 0, modified in steps 1 and 4, is dropped between them
modified : modified_result unit4 0 ≡ Ok (schedule (1 ∷ 2 ∷ 2 ∷ 1 ∷ []))
unfolding bytes unit4 schedule modified_result modified_for same_bytes all_digits value_from is_number split_at after_key value_line
    number_line number_lines sizes_part prices_part warm_part tables_part head_part refs_part plain_part steps_part run_part body_part
    sheet_part named_form read_forms touch_line touch_lines placed_from kind_line row_line row_lines hold_line hold_lines sum tabulate
    touching refs_by later unreferenced listed kept next_kept held_byte held_bytes since_mark joins_before next_marked mod_held
    mod_schedule
modified = refl

-- document 01's call takes forms 1 to 3 and the other form 4 alone: else 4, before 7
schedule-numbers : map (λ s. number (schedule_result s 0)) (unit1 ∷ unit2 ∷ unit3 ∷ unit4 ∷ bad ∷ [])
    ++ map (λ s. number (schedule_result s 1)) (unit1 ∷ unit4 ∷ [])
    ++ map (λ s. number (modified_result s 0)) (unit1 ∷ unit2 ∷ unit3 ∷ unit4 ∷ bad ∷ [])
    ++ map (λ s. number (modified_result s 1)) (unit1 ∷ unit4 ∷ [])
    ≡ 0 ∷ 0 ∷ 0 ∷ 4 ∷ 3 ∷ 7 ∷ 4 ∷ 4 ∷ 4 ∷ 4 ∷ 0 ∷ 3 ∷ 4 ∷ 7 ∷ []
unfolding bytes unit1 unit2 unit3 unit4 bad number schedule_result schedule_for modified_result modified_for same_bytes all_digits
    value_from is_number split_at after_key value_line number_line number_lines sizes_part prices_part warm_part tables_part head_part
    refs_part plain_part steps_part run_part body_part sheet_part named_form read_forms touch_line touch_lines placed_from kind_line
    row_line row_lines hold_line hold_lines
schedule-numbers = refl

-- what pricing answers: the number, memory, load and total
priced : List ℕ → ℕ → List ℕ → List ℕ
priced s r p =
    verdict_number (pricing s r p) ∷ (price_given (pricing s r p)).memory.0 ∷ (price_given (pricing s r p)).load.0
    ∷ (price_given (pricing s r p)).total ∷ []

-- the optimal schedule costs optmem, load and opttotal; one that holds both segments from step 2 on costs 1 + 3 + 1 + 1 + 3
-- beside Q and loads each once; a price of form 4 counts the stores: 3 loads and 2 stores
prices : priced listing 0 (schedule (1 ∷ 3 ∷ 1 ∷ 2 ∷ 2 ∷ 1 ∷ []))
    ++ priced listing 0 (schedule (1 ∷ 3 ∷ 3 ∷ 3 ∷ 3 ∷ 3 ∷ []))
    ++ priced unit4 0 (schedule (1 ∷ 2 ∷ 2 ∷ 1 ∷ []))
    ≡ 0 ∷ 13 ∷ 12 ∷ 38 ∷ 0 ∷ 21 ∷ 6 ∷ 48 ∷ 0 ∷ 4 ∷ 5 ∷ 13 ∷ []
unfolding bytes listing unit4 schedule priced pricing price_for priced_at same_bytes all_digits value_from is_number split_at after_key
    value_line number_line number_lines sizes_part prices_part warm_part tables_part head_part refs_part plain_part steps_part run_part
    body_part sheet_part named_form read_forms touch_line touch_lines placed_from kind_line row_line row_lines hold_line hold_lines sum
    tabulate touching refs_by later unreferenced listed ref_cost held schedule_memory schedule_load schedule_total schedule_verdict
    steps_verdict step_verdict missing enters some_enters all any every_step some_step held_before held_after is_stay modifies_in
    is_modified_stay stores_of marked_load marked_total
prices = refl

-- 7 before 8; 8; 9; 10; 9 before 10 in one step; the earliest faulty step decides; the sheet's refusal. Each with zeros
unpriced : priced listing 2 []
    ++ priced listing 0 []
    ++ priced listing 0 (schedule (0 ∷ 0 ∷ 0 ∷ 0 ∷ 0 ∷ 0 ∷ []))
    ++ priced listing 0 (schedule (3 ∷ 3 ∷ 3 ∷ 3 ∷ 3 ∷ 3 ∷ []))
    ++ priced listing 0 (schedule (2 ∷ 2 ∷ 1 ∷ 2 ∷ 2 ∷ 1 ∷ []))
    ++ priced listing 0 (schedule (3 ∷ 0 ∷ 0 ∷ 0 ∷ 0 ∷ 0 ∷ []))
    ++ priced bad 0 []
    ≡ 7 ∷ 0 ∷ 0 ∷ 0 ∷ 8 ∷ 0 ∷ 0 ∷ 0 ∷ 9 ∷ 0 ∷ 0 ∷ 0 ∷ 10 ∷ 0 ∷ 0 ∷ 0 ∷ 9 ∷ 0 ∷ 0 ∷ 0 ∷ 10 ∷ 0 ∷ 0 ∷ 0 ∷ 3 ∷ 0 ∷ 0 ∷ 0 ∷ []
unfolding bytes listing bad schedule priced pricing price_for priced_at same_bytes all_digits value_from is_number split_at after_key
    value_line number_line number_lines sizes_part prices_part warm_part tables_part head_part refs_part plain_part steps_part run_part
    body_part sheet_part named_form read_forms touch_line touch_lines placed_from kind_line row_line row_lines hold_line hold_lines sum
    tabulate touching refs_by later unreferenced listed held schedule_verdict steps_verdict step_verdict missing enters some_enters
unpriced = refl

-- ---- margins: the sheet's refusals, 7, 14, 15

-- the number and the margin
margin : List ℕ → ℕ → ℕ → ℕ × ℤ
margin s r n = (verdict_number (margin_answer s r n), value_or_zero (pos 0) (margin_answer s r n))

-- references 3 to 6 at the row 1/2: 2 − 2, 4 − 6, 4 − 0, 2 − 4; the first touch of a warm segment has one, 1 − 0. 0 beside every refusal:
-- 7 before 14, 14 for 0 and 7, 15 for the two first touches, 14 for reference 2 of unit2, whose two steps have one, and the sheet's
margins : map (margin listing 0) (3 ∷ 4 ∷ 5 ∷ 6 ∷ []) ++ margin two 0 1 ∷ margin listing 2 0 ∷ map (margin listing 0) (0 ∷ 7 ∷ 1 ∷ 2 ∷ [])
    ++ margin unit2 0 2 ∷ margin bad 2 0 ∷ []
    ≡ (0, pos 0) ∷ (0, negsuc 1) ∷ (0, pos 4) ∷ (0, negsuc 1) ∷ (0, pos 1) ∷ (7, pos 0) ∷ (14, pos 0) ∷ (14, pos 0) ∷ (15, pos 0)
    ∷ (15, pos 0) ∷ (14, pos 0) ∷ (3, pos 0) ∷ []
unfolding bytes listing unit2 two bad margin margin_answer margin_for touch_margin same_bytes all_digits value_from is_number split_at
    after_key value_line number_line number_lines sizes_part prices_part warm_part tables_part head_part refs_part plain_part steps_part
    run_part body_part sheet_part named_form read_forms touch_line touch_lines placed_from kind_line row_line row_lines hold_line
    hold_lines sum tabulate touching refs_by later unreferenced listed ref_place
margins = refl

-- ---- sizing: the sheet's refusals, 12

-- the number and the row; optmem of the rows is 13 and 18, their load 12 and 6
size : List ℕ → ℕ → List ℕ
size s ceiling = verdict_number (size_answer s ceiling) ∷ value_or_zero 0 (size_answer s ceiling) ∷ []

sizes : size listing 12 ++ size listing 13 ++ size listing 17 ++ size listing 18 ++ size listing 18446744073709551615 ++ size bad 18
    ≡ 12 ∷ 0 ∷ 0 ∷ 0 ∷ 0 ∷ 0 ∷ 0 ∷ 1 ∷ 0 ∷ 1 ∷ 3 ∷ 0 ∷ []
unfolding bytes listing bad size size_answer chosen_of same_bytes all_digits value_from is_number split_at after_key value_line
    number_line number_lines sizes_part prices_part warm_part tables_part head_part refs_part plain_part steps_part run_part body_part
    sheet_part named_form read_forms touch_line touch_lines placed_from kind_line row_line row_lines hold_line hold_lines sum tabulate
    touching refs_by later unreferenced listed kept ref_cost misses volume load optmem
sizes = refl

-- ---- bills: the sheet's refusals, 7, 18

-- the number and the cents, at a rate for memory, one for load and a minimum
bill : List ℕ → ℕ → ℕ → ℕ → ℕ → List ℕ
bill s r m l least = verdict_number (bill_answer s r m l least) ∷ (value_or_zero (record { 0 = 0 }) (bill_answer s r m l least)).0 ∷ []

-- 1 started thousand of memory at 7 and 1,045 of load at 5; the minimum; the largest rates and minimum
bills : bill heavy 0 7 5 0 ++ bill heavy 0 7 5 5233 ++ bill heavy 0 7 0 0 ++ bill listing 1 9999 9999 99999
    ≡ 0 ∷ 5232 ∷ 0 ∷ 5233 ∷ 0 ∷ 7 ∷ 0 ∷ 99999 ∷ []
unfolding bytes listing heavy bill bill_answer bill_for row_bill bill_of same_bytes all_digits value_from is_number split_at after_key
    value_line number_line number_lines sizes_part prices_part warm_part tables_part head_part refs_part plain_part steps_part run_part
    body_part sheet_part named_form read_forms touch_line touch_lines placed_from kind_line row_line row_lines hold_line hold_lines sum
    tabulate touching refs_by later unreferenced listed kept ref_cost misses volume load optmem
bills = refl

-- 7 before 18; 18 beyond each limit; the sheet's refusal. Each with 0 cents
unbilled : bill listing 2 10000 0 0 ++ bill listing 0 10000 0 0 ++ bill listing 0 0 10000 0 ++ bill listing 0 0 0 100000 ++ bill bad 2 0 0 9
    ≡ 7 ∷ 0 ∷ 18 ∷ 0 ∷ 18 ∷ 0 ∷ 18 ∷ 0 ∷ 3 ∷ 0 ∷ []
unfolding bytes listing bad bill bill_answer bill_for row_bill same_bytes all_digits value_from is_number split_at after_key value_line
    number_line number_lines sizes_part prices_part warm_part tables_part head_part refs_part plain_part steps_part run_part body_part
    sheet_part named_form read_forms touch_line touch_lines placed_from kind_line row_line row_lines hold_line hold_lines
unbilled = refl

-- ---- converting: form 1 alone, and form 2 alone; 17

-- unit1 in form 2, and back
in_form_2 : List ℕ
in_form_2 = bytes "form=2\nkind=time\na=0\nsegs=2\nsize=1\nsize=1\nrows=1\nrow=1/2\nsteps=1\nrefs=1\nref=0@1\n"

there : to_form_2_result unit1 ≡ Ok in_form_2
unfolding bytes unit1 in_form_2 to_form_2_result sheet_text lines_text touches_from same_bytes all_digits value_from is_number split_at
    after_key value_line number_line number_lines sizes_part prices_part warm_part tables_part head_part refs_part plain_part steps_part
    run_part body_part sheet_part named_form read_forms touch_line touch_lines placed_from kind_line row_line row_lines hold_line
    hold_lines written_in written
there = refl

back : to_form_1_result in_form_2 ≡ Ok unit1
unfolding bytes unit1 in_form_2 to_form_1_result some_idle sheet_text lines_text same_bytes all_digits value_from is_number split_at
    after_key value_line number_line number_lines sizes_part prices_part warm_part tables_part head_part refs_part plain_part steps_part
    run_part body_part sheet_part named_form read_forms touch_line touch_lines placed_from kind_line row_line row_lines hold_line
    hold_lines written_in written
back = refl

-- 4 for another form, on the form line, or on the kind line after its 2 and 3; 17 for the idle step of unit2
convert-numbers : map (λ s. number (to_form_2_result s)) (unit1 ∷ unit2 ∷ unit3 ∷ unit4 ∷ bad ∷ bytes "form=2\nkind=tim\n" ∷ [])
    ++ map (λ s. number (to_form_1_result s)) (unit1 ∷ unit2 ∷ unit3 ∷ unit4 ∷ bad ∷ bytes "kin=time\n" ∷ bytes "kind=time\nb=0\n" ∷ [])
    ≡ 0 ∷ 4 ∷ 4 ∷ 4 ∷ 3 ∷ 4 ∷ 4 ∷ 17 ∷ 4 ∷ 4 ∷ 3 ∷ 2 ∷ 4 ∷ []
unfolding bytes unit1 unit2 unit3 unit4 bad number to_form_2_result to_form_1_result some_idle same_bytes all_digits value_from is_number
    split_at after_key value_line number_line number_lines sizes_part prices_part warm_part tables_part head_part refs_part plain_part
    steps_part run_part body_part sheet_part named_form read_forms touch_line touch_lines placed_from kind_line row_line row_lines
    hold_line hold_lines
convert-numbers = refl

-- ---- joining: forms 2 and 3; the first's refusals, the second's, 20, 21, 22

-- a sheet that joins with unit2, its segment warm; and the two as one, of form 3
other : List ℕ
other =
    bytes "form=3\nkind=time\na=0\nsegs=1\nsize=5\nrows=1\nrow=1/2\nwarm=1\nhold=0\nsteps=3\nrefs=2\nref=0@1\nref=0@3\n"

together : List ℕ
together =
    bytes "form=3\nkind=time\na=0\nsegs=3\nsize=1\nsize=1\nsize=5\nrows=1\nrow=1/2\nwarm=1\nhold=2\n"
    ++ bytes "steps=3\nrefs=3\nref=2@1\nref=0@2\nref=2@3\n"

joins : join_result unit2 other ≡ Ok together
unfolding bytes unit2 other together join_result join_of joint joint_head joint_refs same_heads same_rows both_touch tabulate sheet_text
    lines_text touches_from same_bytes all_digits value_from is_number split_at after_key value_line number_line number_lines sizes_part
    prices_part warm_part tables_part head_part refs_part plain_part steps_part run_part body_part sheet_part named_form read_forms
    touch_line touch_lines placed_from kind_line row_line row_lines hold_line hold_lines written_in written
joins = refl

-- a sheet of form 2 with the kind line, a, so many segments, the row and a touch in the step
lone : String → String → ℕ → String → String → List ℕ
lone kind a segs row step =
    bytes "form=2\n" ++ bytes kind ++ bytes a ++ bytes "segs=" ++ written segs ++ bytes "\n"
    ++ lines_text (λ x. x) (replicate segs (bytes "size=1\n")) ++ bytes "rows=1\n" ++ bytes row
    ++ bytes "steps=2\nrefs=1\nref=0@" ++ bytes step

-- forms 1 and 4 are 4, of the first or of the second; the first's refusal before the second's; 20 for each of kind, a and row line, which
-- is compared as written; 20 before 21, 21 before 22; 22 for 2 and 255 segments, and 2 and 254 join
join-numbers : map (λ s. number (join_result s unit2)) (unit1 ∷ unit4 ∷ bad ∷ bytes "kin=time\n" ∷ unit2 ∷ [])
    ++ map (λ s. number (join_result unit2 s)) (unit1 ∷ unit4 ∷ bad ∷ unit3 ∷ [])
    ++ number (join_result bad [])
    ∷ map (λ s. number (join_result unit2 s))
    (lone "kind=space\n" "a=0\n" 1 "row=1/2\n" "1\n" ∷ lone "kind=time\n" "a=1\n" 1 "row=1/2\n" "1\n"
    ∷ lone "kind=time\n" "a=0\n" 1 "row=2/4\n" "1\n" ∷ lone "kind=time\n" "a=1\n" 1 "row=1/2\n" "2\n"
    ∷ lone "kind=time\n" "a=0\n" 255 "row=1/2\n" "2\n" ∷ lone "kind=time\n" "a=0\n" 255 "row=1/2\n" "1\n"
    ∷ lone "kind=time\n" "a=0\n" 254 "row=1/2\n" "1\n" ∷ [])
    ≡ 4 ∷ 4 ∷ 3 ∷ 2 ∷ 21 ∷ 4 ∷ 4 ∷ 3 ∷ 21 ∷ 3 ∷ 20 ∷ 20 ∷ 20 ∷ 20 ∷ 21 ∷ 22 ∷ 0 ∷ []
unfolding bytes unit1 unit2 unit3 unit4 bad lone number join_result join_of same_heads same_rows both_touch lines_text same_bytes
    all_digits value_from is_number split_at after_key value_line number_line number_lines sizes_part prices_part warm_part tables_part
    head_part refs_part plain_part steps_part run_part body_part sheet_part named_form read_forms touch_line touch_lines placed_from
    kind_line row_line row_lines hold_line hold_lines written_in written
join-numbers = refl

-- ---- importing: the sheet's refusals, 23, 24, 25

-- two lines of one page and one of another, with the rows of document 01's sheet: kind time, a=0, sizes 1; and an empty trace
import-gives : import_result (bytes "0 300\n1 Fff\n2 3FF\n") 8 listing
    ≡ Ok (bytes "kind=time\na=0\nsegs=2\nsize=1\nsize=1\nrows=2\nrow=1/2\nrow=1/1\nrefs=3\nref=0\nref=1\nref=0\n")
unfolding bytes listing import_result imported touched_with touched_by touched_from too_many segments_of firsts firsts_after with_page
    place_in trace_lines digit_of hexDigits hexValue address_of sheet_text lines_text same_bytes all_digits value_from is_number split_at
    after_key value_line number_line number_lines sizes_part prices_part warm_part tables_part head_part refs_part plain_part steps_part
    run_part body_part sheet_part named_form read_forms touch_line touch_lines placed_from kind_line row_line row_lines hold_line
    hold_lines written_in written
import-gives = refl

import-empty : import_result [] 24 unit4 ≡ Ok (bytes "kind=time\na=0\nsegs=1\nsize=1\nrows=1\nrow=1/2\nrefs=0\n")
unfolding bytes unit4 import_result imported touched_with touched_by touched_from segments_of firsts firsts_after trace_lines sheet_text
    lines_text same_bytes all_digits value_from is_number split_at after_key value_line number_line number_lines sizes_part prices_part
    warm_part tables_part head_part refs_part plain_part steps_part run_part body_part sheet_part named_form read_forms touch_line
    touch_lines placed_from kind_line row_line row_lines hold_line hold_lines written_in written
import-empty = refl

-- the sheet's number before 23 and 24; 23 for 7 and 25, before 24; 24 for label 3, two blanks and a missing line feed
import-numbers : number (import_result (bytes "3 1\n") 7 bad)
    ∷ number (import_result (bytes "3 1\n") 8 bad)
    ∷ map (λ k. number (import_result (bytes "3 1\n") k listing)) (7 ∷ 8 ∷ 24 ∷ 25 ∷ [])
    ++ map (λ t. number (import_result (bytes t) 8 listing)) ("0 1\n" ∷ "0  1\n" ∷ "0 1" ∷ [])
    ++ map (λ s. number (import_result (bytes "0 1\n") 8 s)) (unit2 ∷ unit3 ∷ unit4 ∷ [])
    ≡ 3 ∷ 3 ∷ 23 ∷ 24 ∷ 24 ∷ 23 ∷ 0 ∷ 24 ∷ 24 ∷ 0 ∷ 0 ∷ 0 ∷ []
unfolding bytes listing unit2 unit3 unit4 bad number import_result imported touched_with touched_by touched_from too_many firsts
    firsts_after with_page place_in trace_lines digit_of hexDigits hexValue address_of same_bytes all_digits value_from is_number split_at
    after_key value_line number_line number_lines sizes_part prices_part warm_part tables_part head_part refs_part plain_part steps_part
    run_part body_part sheet_part named_form read_forms touch_line touch_lines placed_from kind_line row_line row_lines hold_line
    hold_lines
import-numbers = refl

-- ---- lists: least-recently-used frames, windows, operating points

-- unit4 touches 0, 1, 1, 0: misses with one frame and with two, by both engines
curve : lru_result unit4 ≡ Ok (3 ∷ 2 ∷ [])
unfolding bytes unit4 lru_result curve_for ones_verdict all_ones same_bytes all_digits value_from is_number split_at after_key value_line
    number_line number_lines sizes_part prices_part warm_part tables_part head_part refs_part plain_part steps_part run_part body_part
    sheet_part named_form read_forms touch_line touch_lines placed_from kind_line row_line row_lines hold_line hold_lines sum tabulate
    touching lru_misses distance recency place_of without later
curve = refl

plain-curve : lru_plain_result unit4 ≡ Ok (3 ∷ 2 ∷ [])
unfolding bytes unit4 lru_plain_result plain_for ones_verdict all_ones same_bytes all_digits value_from is_number split_at after_key
    value_line number_line number_lines sizes_part prices_part warm_part tables_part head_part refs_part plain_part steps_part run_part
    body_part sheet_part named_form read_forms touch_line touch_lines placed_from kind_line row_line row_lines hold_line hold_lines sum
    tabulate touching refs_by later unreferenced listed lru_simulated memory reloaded swapped replaced least_recent has
plain-curve = refl

-- entries looked at: 0, 1, 1 and 2; none where the place is too short or the sheet is refused
looked : lru_looked unit4 (0 ∷ 0 ∷ []) ∷ lru_looked unit4 (0 ∷ []) ∷ lru_looked two (0 ∷ []) ∷ lru_looked bad (0 ∷ []) ∷ []
    ≡ 4 ∷ 0 ∷ 0 ∷ 0 ∷ []
unfolding bytes unit4 two bad lru_looked place_answer curve_for ones_verdict all_ones same_bytes all_digits value_from is_number split_at
    after_key value_line number_line number_lines sizes_part prices_part warm_part tables_part head_part refs_part plain_part steps_part
    run_part body_part sheet_part named_form read_forms touch_line touch_lines placed_from kind_line row_line row_lines hold_line
    hold_lines sum tabulate touching lru_misses entries_looked distance recency place_of without later
looked = refl

-- wsocc of unit4 at the windows 1 to 4: refs, and then 2, 1 and 0 intervals longer than 1, 2 and 3 steps
windows : windows_result unit4 ≡ Ok (4 ∷ 6 ∷ 7 ∷ 7 ∷ [])
unfolding bytes unit4 windows_result windows_for wsoccs time_zero ones_verdict all_ones same_bytes all_digits value_from is_number
    split_at after_key value_line number_line number_lines sizes_part prices_part warm_part tables_part head_part refs_part plain_part
    steps_part run_part body_part sheet_part named_form read_forms touch_line touch_lines placed_from kind_line row_line row_lines
    hold_line hold_lines sum tabulate touching refs_by later unreferenced listed wsocc wsspace wsmem ref_volume ref_cost smaller
windows = refl

-- the points of document 01's sheet, each R, w, optmem and load: at 0 the reuse of step 5 alone is kept, then one more at each
points : points_result listing
    ≡ Ok (0 ∷ 4 ∷ 12 ∷ 14 ∷ 1 ∷ 2 ∷ 13 ∷ 12 ∷ 3 ∷ 4 ∷ 16 ∷ 8 ∷ 2 ∷ 2 ∷ 18 ∷ 6 ∷ [])
unfolding bytes listing points_result points_for operating_points point_numbers thresholds ratios insert same_bytes all_digits value_from
    is_number split_at after_key value_line number_line number_lines sizes_part prices_part warm_part tables_part head_part refs_part
    plain_part steps_part run_part body_part sheet_part named_form read_forms touch_line touch_lines placed_from kind_line row_line
    row_lines hold_line hold_lines sum tabulate touching refs_by later unreferenced listed kept ref_cost misses volume load optmem
points = refl

-- no reuse: 0 and 1 with Q and the load of all references
point-alone : points_result unit2 ≡ Ok (0 ∷ 1 ∷ 1 ∷ 1 ∷ [])
unfolding bytes unit2 points_result points_for operating_points point_numbers thresholds ratios insert same_bytes all_digits value_from
    is_number split_at after_key value_line number_line number_lines sizes_part prices_part warm_part tables_part head_part refs_part
    plain_part steps_part run_part body_part sheet_part named_form read_forms touch_line touch_lines placed_from kind_line row_line
    row_lines hold_line hold_lines sum tabulate touching refs_by later unreferenced listed kept ref_cost misses volume load optmem
point-alone = refl

-- frames: 26 before 27, by both engines; windows: 28 first, then 26, then 27; every form
list-numbers : map (λ s. number (lru_result s)) (listing ∷ two ∷ unit1 ∷ unit2 ∷ unit3 ∷ unit4 ∷ bad ∷ [])
    ++ map (λ s. number (lru_plain_result s)) (listing ∷ two ∷ unit1 ∷ unit2 ∷ unit3 ∷ unit4 ∷ bad ∷ [])
    ++ map (λ s. number (windows_result s)) (listing ∷ space ∷ weighted ∷ two ∷ unit1 ∷ unit2 ∷ unit3 ∷ unit4 ∷ bad ∷ [])
    ++ map (λ s. number (points_result s)) (unit1 ∷ unit2 ∷ unit3 ∷ unit4 ∷ bad ∷ [])
    ≡ (26 ∷ 26 ∷ 0 ∷ 0 ∷ 27 ∷ 0 ∷ 3 ∷ [])
    ++ (26 ∷ 26 ∷ 0 ∷ 0 ∷ 27 ∷ 0 ∷ 3 ∷ [])
    ++ (28 ∷ 28 ∷ 28 ∷ 26 ∷ 0 ∷ 0 ∷ 27 ∷ 0 ∷ 3 ∷ [])
    ++ (0 ∷ 0 ∷ 0 ∷ 0 ∷ 3 ∷ [])
unfolding bytes listing unit1 unit2 unit3 unit4 two space weighted bad number lru_result lru_plain_result windows_result points_result
    curve_for plain_for windows_for points_for time_zero ones_verdict all_ones same_bytes all_digits value_from is_number split_at
    after_key value_line number_line number_lines sizes_part prices_part warm_part tables_part head_part refs_part plain_part steps_part
    run_part body_part sheet_part named_form read_forms touch_line touch_lines placed_from kind_line row_line row_lines hold_line
    hold_lines
list-numbers = refl

-- ---- the recorder's start: forms 1 to 3

-- the number, and segments, rows, warm segments and steps of the recorder: none where the start is refused
started : List ℕ → List ℕ
started s =
    verdict_number (start_answer s).verdict
    ∷ (start_answer s).recorder.head.segs
    ∷ (start_answer s).recorder.head.rows
    ∷ (start_answer s).recorder.head.warm
    ∷ (start_answer s).recorder.steps
    ∷ []

starts : started listing ++ started unit2 ++ started two ++ started unit4 ++ started bad
    ≡ (0 ∷ 2 ∷ 2 ∷ 0 ∷ 0 ∷ []) ++ (0 ∷ 2 ∷ 1 ∷ 0 ∷ 0 ∷ []) ++ (0 ∷ 1 ∷ 1 ∷ 1 ∷ 0 ∷ []) ++ (4 ∷ 0 ∷ 0 ∷ 0 ∷ 0 ∷ [])
    ++ (3 ∷ 0 ∷ 0 ∷ 0 ∷ 0 ∷ [])
unfolding bytes listing unit2 unit4 two bad started start_answer recorder_of empty_recorder head_of empty_head same_bytes all_digits
    value_from is_number split_at after_key value_line number_line number_lines sizes_part prices_part warm_part tables_part head_part
    refs_part plain_part steps_part run_part body_part sheet_part named_form read_forms touch_line touch_lines placed_from kind_line
    row_line row_lines hold_line hold_lines
starts = refl
