-- What the program prints, byte for byte: document 01's listing; a sheet of each later form, worked by hand; the line of a refusal; and the
-- first lines of the page of document 01's listing.
use Rattle.std.specs.Prelude.{Result, Ok, Err}
use Rattle.model.specs.declared.Refusal.{Refusal}
use Prim.Native.Nat.{ℕ}
use Prim.Native.String.{String}
use mathlib.Core.Path.{◌≡◌, refl}
use mathlib.Core.List.{List, [], ◌∷◌, ◌++◌, map}
use lib.ListN.{length, take, replicate}
use Rattle.decimal.specs.Decimal.{all_digits, value_from, is_number, written_in, written}
use Rattle.text.proofs.Strings.{bytes}
use Rattle.model.specs.Figures.{misses, volume, load, optmem, opttotal, optocc, wsmem, wsocc, wsspace, mean}
use Rattle.model.specs.Figures.{kept, ref_cost, ref_volume, smaller}
use Rattle.model.specs.Rows.{row_figures}
use Rattle.model.specs.Sheets.{listed}
use Rattle.model.specs.Sums.{sum, tabulate}
use Rattle.model.specs.Traces.{touching, refs_by, later, unreferenced}
use Rattle.sheet.specs.Lines.{same_bytes, split_at, after_key, value_line, number_line, number_lines}
use Rattle.sheet.specs.Order.{sizes_part, prices_part, warm_part, tables_part, head_part, refs_part, plain_part, steps_part, run_part}
use Rattle.sheet.specs.Order.{body_part}
use Rattle.sheet.specs.Order.{sheet_part}
use Rattle.sheet.specs.Reading.{named_form, read_forms}
use Rattle.sheet.specs.Touches.{touch_line, touch_lines, placed_from}
use Rattle.sheet.specs.Values.{kind_line, row_line, row_lines}
use Rattle.sheet.specs.Warm.{hold_line, hold_lines}
use Rattle.stores.specs.Modtotal.{since_mark, store_cost, mod_added, modtotal}
use Rattle.listing.specs.RowListing.{row_listing, mod_listing, rows_listing}
use Rattle.listing.specs.Listing.{steps_listing, listing, listing_of, refused_text}
use Rattle.page.specs.Page.{columns, page_line, title_line, names_line, row_line as pageRow, blank_line, page_lines, second_page, all_lines}
use Rattle.page.specs.Page.{concatenated, pages, pages_of}
use Rattle.analyser.specs.Texts.{printed_text, page_result}

-- ---- the listing of each form

-- document 01's sheet
sheet1 : List ℕ
sheet1 =
    bytes "kind=space\na=1\nsegs=2\nsize=1\nsize=3\nrows=2\nrow=1/2\nrow=1/1\nrefs=6\nref=0\nref=1\nref=0\nref=1\nref=1\nref=0\n"

listing1 : List ℕ
listing1 =
    bytes "refs=6\nsegs=2\nrows=2\n"
    ++ bytes "h=1\nd=2\nmisses=4\nvolume=8\nload=12\noptmem=13\nopttotal=38\noptocc=13\nwsmem=36\nwsocc=36\nmean=3000\n"
    ++ bytes "h=1\nd=1\nmisses=2\nvolume=4\nload=6\noptmem=18\nopttotal=24\noptocc=18\nwsmem=21\nwsocc=21\nmean=3500\n"

form-1 : printed_text sheet1 ≡ listing1
unfolding bytes sheet1 listing1 printed_text same_bytes all_digits value_from is_number split_at after_key value_line number_line
    number_lines sizes_part prices_part warm_part tables_part head_part refs_part plain_part steps_part run_part body_part sheet_part
    named_form read_forms touch_line touch_lines placed_from kind_line row_line row_lines hold_line hold_lines written_in written misses
    volume load optmem opttotal optocc wsmem wsocc wsspace mean kept ref_cost ref_volume smaller row_figures listed sum tabulate touching
    refs_by later unreferenced row_listing mod_listing rows_listing steps_listing listing listing_of
form-1 = refl

-- no references (P10)
none1 : List ℕ
none1 = bytes "kind=time\na=3\nsegs=2\nsize=7\nsize=2\nrows=1\nrow=5/2\nrefs=0\n"

listing_none : List ℕ
listing_none =
    bytes "refs=0\nsegs=2\nrows=1\n"
    ++ bytes "h=5\nd=2\nmisses=0\nvolume=0\nload=0\noptmem=0\nopttotal=0\noptocc=0\nwsmem=0\nwsocc=0\nmean=0\n"

no-references : printed_text none1 ≡ listing_none
unfolding bytes none1 listing_none printed_text same_bytes all_digits value_from is_number split_at after_key value_line number_line
    number_lines sizes_part prices_part warm_part tables_part head_part refs_part plain_part steps_part run_part body_part sheet_part
    named_form read_forms touch_line touch_lines placed_from kind_line row_line row_lines hold_line hold_lines written_in written misses
    volume load optmem opttotal optocc wsmem wsocc wsspace mean kept ref_cost ref_volume smaller row_figures listed sum tabulate touching
    refs_by later unreferenced row_listing mod_listing rows_listing steps_listing listing listing_of
no-references = refl

-- form 2: steps= after refs=. The touch in step 2 is a miss, w is 1, the end interval has R = 0, and the mean is 1,000 × 2 / (2 × 2)
sheet2 : List ℕ
sheet2 = bytes "form=2\nkind=time\na=0\nsegs=2\nsize=1\nsize=1\nrows=1\nrow=1/2\nsteps=2\nrefs=1\nref=0@2\n"

listing2 : List ℕ
listing2 =
    bytes "refs=1\nsteps=2\nsegs=2\nrows=1\n"
    ++ bytes "h=1\nd=2\nmisses=1\nvolume=1\nload=1\noptmem=1\nopttotal=3\noptocc=1\nwsmem=2\nwsocc=2\nmean=500\n"

form-2 : printed_text sheet2 ≡ listing2
unfolding bytes sheet2 listing2 printed_text same_bytes all_digits value_from is_number split_at after_key value_line number_line
    number_lines sizes_part prices_part warm_part tables_part head_part refs_part plain_part steps_part run_part body_part sheet_part
    named_form read_forms touch_line touch_lines placed_from kind_line row_line row_lines hold_line hold_lines written_in written misses
    volume load optmem opttotal optocc wsmem wsocc wsspace mean kept ref_cost ref_volume smaller row_figures listed sum tabulate touching
    refs_by later unreferenced row_listing mod_listing rows_listing steps_listing listing listing_of
form-2 = refl

-- form 3: document 01's run with segment 1 warm. Its touch in step 2 is a reuse with R = 3 and w = 4: not kept by the row 1/2, to whose
-- wsmem it adds 4, and kept by the row 1/1
sheet3 : List ℕ
sheet3 =
    bytes "form=3\nkind=space\na=1\nsegs=2\nsize=1\nsize=3\nrows=2\nrow=1/2\nrow=1/1\nwarm=1\nhold=1\n"
    ++ bytes "steps=6\nrefs=6\nref=0@1\nref=1@2\nref=0@3\nref=1@4\nref=1@5\nref=0@6\n"

listing3 : List ℕ
listing3 =
    bytes "refs=6\nsteps=6\nsegs=2\nrows=2\n"
    ++ bytes "h=1\nd=2\nmisses=4\nvolume=8\nload=12\noptmem=13\nopttotal=38\noptocc=13\nwsmem=40\nwsocc=40\nmean=3333\n"
    ++ bytes "h=1\nd=1\nmisses=1\nvolume=1\nload=2\noptmem=21\nopttotal=23\noptocc=21\nwsmem=24\nwsocc=24\nmean=4000\n"

form_3 : printed_text sheet3 ≡ listing3
unfolding bytes sheet3 listing3 printed_text same_bytes all_digits value_from is_number split_at after_key value_line number_line
    number_lines sizes_part prices_part warm_part tables_part head_part refs_part plain_part steps_part run_part body_part sheet_part
    named_form read_forms touch_line touch_lines placed_from kind_line row_line row_lines hold_line hold_lines written_in written misses
    volume load optmem opttotal optocc wsmem wsocc wsspace mean kept ref_cost ref_volume smaller row_figures listed sum tabulate touching
    refs_by later unreferenced row_listing mod_listing rows_listing steps_listing listing listing_of
form_3 = refl

-- form 4, kind time, w = 1 throughout, segment 2 warm and never touched, step 5 idle. Segment 0 is modified in steps 1 and 4: at the row
-- 1/2 dropping it between them costs a load and a store, 2, and holding it 2 × 2; at the row 1/1 both cost 2
sheet4 : List ℕ
sheet4 =
    bytes "form=4\nkind=time\na=0\nsegs=3\nsize=1\nsize=2\nsize=3\nrows=2\nrow=1/2\nrow=1/1\nwarm=1\nhold=2\n"
    ++ bytes "steps=5\nrefs=4\nref=0@1w\nref=1@2\nref=1@3\nref=0@4w\n"

listing4 : List ℕ
listing4 =
    bytes "refs=4\nsteps=5\nsegs=3\nrows=2\n"
    ++ bytes "h=1\nd=2\nmisses=3\nvolume=4\nload=3\noptmem=4\nopttotal=11\noptocc=6\nwsmem=12\nwsocc=19\nmean=1900\nmodtotal=13\n"
    ++ bytes "h=1\nd=1\nmisses=3\nvolume=4\nload=3\noptmem=4\nopttotal=7\noptocc=6\nwsmem=8\nwsocc=13\nmean=2600\nmodtotal=9\n"

form-4 : printed_text sheet4 ≡ listing4
unfolding bytes sheet4 listing4 printed_text same_bytes all_digits value_from is_number split_at after_key value_line number_line
    number_lines sizes_part prices_part warm_part tables_part head_part refs_part plain_part steps_part run_part body_part sheet_part
    named_form read_forms touch_line touch_lines placed_from kind_line row_line row_lines hold_line hold_lines written_in written misses
    volume load optmem opttotal optocc wsmem wsocc wsspace mean kept ref_cost ref_volume smaller row_figures listed sum tabulate touching
    refs_by later unreferenced since_mark store_cost mod_added modtotal row_listing mod_listing rows_listing steps_listing listing
    listing_of
form-4 = refl

-- form 4 without a letter w: modtotal is opttotal
unmarked4 : List ℕ
unmarked4 = bytes "form=4\nkind=time\na=0\nsegs=1\nsize=2\nrows=1\nrow=3/1\nwarm=0\nsteps=3\nrefs=2\nref=0@1\nref=0@3\n"

listing-unmarked : List ℕ
listing-unmarked =
    bytes "refs=2\nsteps=3\nsegs=1\nrows=1\n"
    ++ bytes "h=3\nd=1\nmisses=1\nvolume=2\nload=1\noptmem=3\nopttotal=6\noptocc=6\nwsmem=3\nwsocc=6\nmean=2000\nmodtotal=6\n"

form-4-unmarked : printed_text unmarked4 ≡ listing-unmarked
unfolding bytes unmarked4 listing-unmarked printed_text same_bytes all_digits value_from is_number split_at after_key value_line
    number_line number_lines sizes_part prices_part warm_part tables_part head_part refs_part plain_part steps_part run_part body_part
    sheet_part named_form read_forms touch_line touch_lines placed_from kind_line row_line row_lines hold_line hold_lines written_in
    written misses volume load optmem opttotal optocc wsmem wsocc wsspace mean kept ref_cost ref_volume smaller row_figures listed sum
    tabulate touching refs_by later unreferenced since_mark store_cost mod_added modtotal row_listing mod_listing rows_listing
    steps_listing listing listing_of
form-4-unmarked = refl

-- ---- refusals: one line, refused= and the number

-- the lines of a sheet of a form up to its first row
up_to_row : String → String → List ℕ
up_to_row form rows = bytes form ++ bytes "kind=time\na=0\nsegs=2\nsize=1\nsize=1\n" ++ bytes rows ++ bytes "row=1/2\n"

refusals : map printed_text
    (replicate 20013 10
    ∷ []
    ∷ bytes "kind=tim\n"
    ∷ bytes "form=5\n"
    ∷ (up_to_row "" "rows=2\n" ++ bytes "row=2/4\nrefs=0\n")
    ∷ (up_to_row "" "rows=1\n" ++ bytes "refs=0\n\n")
    ∷ (up_to_row "form=2\n" "rows=1\n" ++ bytes "steps=2\nrefs=3\n")
    ∷ (up_to_row "form=2\n" "rows=1\n" ++ bytes "steps=2\nrefs=1\nref=0@3\n")
    ∷ (up_to_row "form=3\n" "rows=1\n" ++ bytes "warm=2\nhold=1\nhold=0\n")
    ∷ [])
    ≡ map bytes
    ("refused=1\n" ∷ "refused=2\n" ∷ "refused=3\n" ∷ "refused=4\n" ∷ "refused=5\n" ∷ "refused=6\n" ∷ "refused=4\n" ∷ "refused=16\n"
    ∷ "refused=19\n" ∷ [])
unfolding bytes up_to_row printed_text refused_text same_bytes all_digits value_from is_number split_at after_key value_line number_line
    number_lines sizes_part prices_part warm_part tables_part head_part refs_part plain_part steps_part run_part body_part sheet_part
    named_form read_forms touch_line touch_lines placed_from kind_line row_line row_lines hold_line hold_lines written_in written
refusals = refl

-- ---- the page of document 01's sheet: its first five lines; it has 60

given : Result (List ℕ) Refusal → List ℕ
given (Ok text) = text
given (Err r) = []

first_lines : List ℕ
first_lines =
    bytes "kind=space a=1                                                          \n"
    ++ bytes "      h        d    misses        volume          load          mean    \n"
    ++ bytes "      1        2         4             8            12          3000    \n"
    ++ bytes "      1        1         2             4             6          3500    \n"
    ++ bytes "                                                                        \n"

page-shows : take 365 (given (page_result sheet1)) ≡ first_lines
unfolding bytes sheet1 given first_lines page_result same_bytes all_digits value_from is_number split_at after_key value_line number_line
    number_lines sizes_part prices_part warm_part tables_part head_part refs_part plain_part steps_part run_part body_part sheet_part
    named_form read_forms touch_line touch_lines placed_from kind_line row_line row_lines hold_line hold_lines written_in written misses
    volume load optmem opttotal optocc wsmem wsocc wsspace mean kept ref_cost ref_volume smaller row_figures listed sum tabulate touching
    refs_by later unreferenced columns page_line title_line names_line pageRow blank_line page_lines second_page all_lines concatenated
    pages pages_of
page-shows = refl

page-length : length (given (page_result sheet1)) ≡ 4380
unfolding bytes sheet1 given page_result same_bytes all_digits value_from is_number split_at after_key value_line number_line number_lines
    sizes_part prices_part warm_part tables_part head_part refs_part plain_part steps_part run_part body_part sheet_part named_form
    read_forms touch_line touch_lines placed_from kind_line row_line row_lines hold_line hold_lines written_in written misses volume load
    optmem opttotal optocc wsmem wsocc wsspace mean kept ref_cost ref_volume smaller row_figures listed sum tabulate touching refs_by
    later unreferenced columns page_line title_line names_line pageRow blank_line page_lines second_page all_lines concatenated pages
    pages_of
page-length = refl
