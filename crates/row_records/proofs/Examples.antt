-- What a lent list of row records holds after the call, for document 01's sheet, and what the call answers.
use Prim.Native.Nat.{ℕ}
use mathlib.Core.Path.{◌≡◌, refl}
use mathlib.Core.List.{List, [], ◌∷◌, ◌++◌}
use lib.ListN.{replicate}
use Rattle.decimal.specs.Decimal.{all_digits, value_from, is_number}
use Rattle.text.proofs.Strings.{bytes}
use Rattle.model.specs.Figures.{misses, volume, load, optmem, opttotal, optocc, wsmem, wsocc, mean, kept, ref_cost, ref_volume, smaller}
use Rattle.model.specs.Refusals.{verdict_number, value_or_zero}
use Rattle.model.specs.Rows.{row_figures}
use Rattle.model.specs.Sheets.{listed}
use Rattle.model.specs.Sums.{sum, tabulate}
use Rattle.model.specs.Traces.{touching, later, unreferenced}
use Rattle.model.specs.declared.RowFigures.{RowFigures}
use Rattle.sheet.specs.Lines.{same_bytes, split_at, after_key, value_line, number_line, number_lines}
use Rattle.sheet.specs.Order.{sizes_part, prices_part, tables_part, head_part, refs_part, plain_part, run_part, body_part, sheet_part}
use Rattle.sheet.specs.Reading.{named_form, read_forms}
use Rattle.sheet.specs.Values.{kind_line, row_line, row_lines}
use Rattle.row_records.specs.Listed.{sheet_answer, sheet_after, list_answer, list_after}

sheet : List ℕ
sheet =
    bytes "kind=space\na=1\nsegs=2\nsize=1\nsize=3\nrows=2\nrow=1/2\nrow=1/1\nrefs=6\nref=0\nref=1\nref=0\nref=1\nref=1\nref=0\n"

-- one that is refused with 3
bad : List ℕ
bad = bytes "kind=tim\n"

-- the eleven items of a row
row : ℕ → ℕ → ℕ → ℕ → ℕ → ℕ → ℕ → ℕ → ℕ → ℕ → ℕ → RowFigures
row h d misses volume load optmem opttotal optocc wsmem wsocc mean =
    record {
      h = h;
      d = d;
      misses = misses;
      volume = volume;
      load = record { 0 = load };
      optmem = record { 0 = optmem };
      opttotal = opttotal;
      optocc = optocc;
      wsmem = wsmem;
      wsocc = wsocc;
      mean = mean;
    }

-- a record that stood in the list before
old : ℕ → RowFigures
old n = row n n n n n n n n n n n

-- a list of four: the two rows, in their order, and the records beyond them stay; a list of one, and a sheet that is refused: none changes
after : list_after sheet (old 5 ∷ old 6 ∷ old 7 ∷ old 8 ∷ []) ++ list_after sheet (old 5 ∷ []) ++ list_after bad (old 5 ∷ old 6 ∷ [])
    ≡ row 1 2 4 8 12 13 38 13 36 36 3000
    ∷ row 1 1 2 4 6 18 24 18 21 21 3500
    ∷ old 7
    ∷ old 8
    ∷ old 5
    ∷ old 5
    ∷ old 6
    ∷ []
unfolding bytes sheet bad row old list_after sheet_after same_bytes all_digits value_from is_number split_at after_key value_line
    number_line number_lines sizes_part prices_part tables_part head_part refs_part plain_part run_part body_part sheet_part named_form
    read_forms kind_line row_line row_lines misses volume load optmem opttotal optocc wsmem wsocc mean kept ref_cost ref_volume smaller
    row_figures listed sum tabulate touching later unreferenced
after = refl

-- the number, and how many records were written
answered : List ℕ → ℕ → List ℕ
answered s room =
    verdict_number (list_answer s (replicate room (old 5))) ∷ value_or_zero 0 (list_answer s (replicate room (old 5))) ∷ []

answers : answered sheet 4 ++ answered sheet 2 ++ answered sheet 1 ++ answered bad 1 ≡ 0 ∷ 2 ∷ 0 ∷ 2 ∷ 11 ∷ 0 ∷ 3 ∷ 0 ∷ []
unfolding bytes sheet bad row old answered list_answer sheet_answer same_bytes all_digits value_from is_number split_at after_key
    value_line number_line number_lines sizes_part prices_part tables_part head_part refs_part plain_part run_part body_part sheet_part
    named_form read_forms kind_line row_line row_lines
answers = refl
