-- One sheet of each form with every kind of line that the form has: its text is the lines in the documents' order, and reading this text
-- gives the sheet.
use Prim.Native.Nat.{ℕ}
use mathlib.Core.Path.{◌≡◌, refl}
use mathlib.Core.Bool.{true, false}
use mathlib.Core.List.{List, [], ◌∷◌, ◌++◌}
use Rattle.model.specs.Sheets.{SheetValue, idle}
use Rattle.model.specs.declared.Kind.TheVariants.{Time, Space}
use Rattle.decimal.specs.Decimal.{all_digits, value_from, is_number, written, written_in}
use Rattle.text.specs.Texts.{lines_text}
use Rattle.text.proofs.Strings.{bytes}
use Rattle.sheet.specs.Lines.{split_at, after_key, value_line, number_line, same_bytes, number_lines}
use Rattle.sheet.specs.Order.{sizes_part, prices_part, warm_part, tables_part, head_part}
use Rattle.sheet.specs.Order.{refs_part, plain_part, steps_part, run_part, body_part, sheet_part}
use Rattle.sheet.specs.Reading.{accepted, named_form, read_forms, read_sheet}
use Rattle.sheet.specs.Touches.{touch_line, touch_lines, placed_from, touches_from}
use Rattle.sheet.specs.Values.{kind_line, row_line, row_lines}
use Rattle.sheet.specs.Warm.{hold_line, hold_lines}
use Rattle.sheet.specs.Writing.{sheet_text}

-- the bytes are those of the sheet, and are read as it
pub record BothWays (v : SheetValue) (s : List ℕ) : Type 0 where
  pub written_so : sheet_text v ≡ s
  pub read_so : read_sheet s ≡ accepted v

-- ---- form 1

form1 : SheetValue
form1 =
    record {
      form = 1;
      head =
          record {
            kind = Time;
            a = 12;
            sizes = 4095 ∷ 7 ∷ 30 ∷ [];
            rows = record { h = 0; d = 65535 } ∷ record { h = 65535; d = 1 } ∷ [];
            warm = [];
          };
      entries = 2 ∷ 0 ∷ 2 ∷ 1 ∷ [];
      marks = [];
    }

text1 : List ℕ
text1 =
    bytes
    "kind=time\na=12\nsegs=3\nsize=4095\nsize=7\nsize=30\nrows=2\nrow=0/65535\nrow=65535/1\nrefs=4\nref=2\nref=0\nref=2\nref=1\n"

form-1 : BothWays form1 text1
unfolding form1 text1 bytes read_forms named_form sheet_part body_part head_part tables_part run_part sizes_part prices_part refs_part
    plain_part kind_line number_lines row_line row_lines split_at after_key value_line number_line same_bytes all_digits value_from
    is_number sheet_text lines_text written written_in
form-1 = record { written_so = refl; read_so = refl }

-- ---- form 2: form= first, steps= before refs=, and each touch with its step

form2 : SheetValue
form2 =
    record {
      form = 2;
      head =
          record { kind = Space; a = 255; sizes = 1 ∷ 20 ∷ []; rows = record { h = 10; d = 3 } ∷ []; warm = [] };
      entries =
          1 ∷ idle ∷ idle ∷ 0 ∷ idle ∷ idle ∷ idle ∷ idle ∷ idle ∷ idle ∷ 1 ∷ idle ∷ [];
      marks = [];
    }

text2 : List ℕ
text2 =
    bytes
    "form=2\nkind=space\na=255\nsegs=2\nsize=1\nsize=20\nrows=1\nrow=10/3\nsteps=12\nrefs=3\nref=1@1\nref=0@4\nref=1@11\n"

form-2 : BothWays form2 text2
unfolding form2 text2 bytes read_forms named_form sheet_part body_part head_part tables_part run_part sizes_part prices_part steps_part
    kind_line number_lines row_line row_lines touch_line touch_lines placed_from touches_from split_at after_key value_line number_line
    same_bytes all_digits value_from is_number sheet_text lines_text written written_in
form-2 = record { written_so = refl; read_so = refl }

-- ---- form 3: warm= and hold= between the rows and steps=

form3 : SheetValue
form3 =
    record {
      form = 3;
      head =
          record {
            kind = Space;
            a = 0;
            sizes = 5 ∷ 6 ∷ 7 ∷ [];
            rows = record { h = 1; d = 2 } ∷ record { h = 1; d = 1 } ∷ [];
            warm = 0 ∷ 2 ∷ [];
          };
      entries = 2 ∷ idle ∷ 1 ∷ [];
      marks = [];
    }

text3 : List ℕ
text3 =
    bytes "form=3\nkind=space\na=0\nsegs=3\nsize=5\nsize=6\nsize=7\nrows=2\nrow=1/2\nrow=1/1\nwarm=2\nhold=0\nhold=2\n"
    ++ bytes "steps=3\nrefs=2\nref=2@1\nref=1@3\n"

form_3 : BothWays form3 text3
unfolding form3 text3 bytes read_forms named_form sheet_part body_part head_part tables_part run_part sizes_part prices_part warm_part
    steps_part kind_line number_lines row_line row_lines hold_line hold_lines touch_line touch_lines placed_from touches_from split_at
    after_key value_line number_line same_bytes all_digits value_from is_number sheet_text lines_text written written_in
form_3 = record { written_so = refl; read_so = refl }

-- ---- form 4: the letter w after the step of a touch that modifies

form4 : SheetValue
form4 =
    record {
      form = 4;
      head =
          record { kind = Time; a = 1; sizes = 1 ∷ 3 ∷ []; rows = record { h = 3; d = 2 } ∷ []; warm = 1 ∷ [] };
      entries = 0 ∷ 1 ∷ idle ∷ 0 ∷ [];
      marks = true ∷ false ∷ false ∷ true ∷ [];
    }

text4 : List ℕ
text4 =
    bytes "form=4\nkind=time\na=1\nsegs=2\nsize=1\nsize=3\nrows=1\nrow=3/2\nwarm=1\nhold=1\n"
    ++ bytes "steps=4\nrefs=3\nref=0@1w\nref=1@2\nref=0@4w\n"

form-4 : BothWays form4 text4
unfolding form4 text4 bytes read_forms named_form sheet_part body_part head_part tables_part run_part sizes_part prices_part warm_part
    steps_part kind_line number_lines row_line row_lines hold_line hold_lines touch_line touch_lines placed_from touches_from split_at
    after_key value_line number_line same_bytes all_digits value_from is_number sheet_text lines_text written written_in
form-4 = record { written_so = refl; read_so = refl }
