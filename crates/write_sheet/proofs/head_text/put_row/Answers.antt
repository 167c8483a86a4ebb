-- `write_sheet::head_text::put_row` meets its contract: the key is put, then h and "/", then d and the line feed.
use mathlib.Core.Path.{◌≡◌}
use mathlib.Core.List.{[], ◌∷◌, ◌++◌, append_assoc}
use Rattle.decimal.specs.Decimal.{written}
use Rattle.model.specs.declared.PriceRow.{PriceRow}
use Rattle.text.specs.Keys.{line_feed, slash, row_key}
use Rattle.sheet.specs.Values.{row_text}
use Rattle.text.proofs.Putting.{put_then, put_same}
use Rattle.write_sheet.proofs.head_text.put_row.Goals as goal

-- the line in the parts that are put
parts : (q : PriceRow) → row_key ++ ((written q.h ++ (slash ∷ [])) ++ (written q.d ++ (line_feed ∷ []))) ≡ row_text q
parts q = simp append_assoc

pub returns : goal.returns
returns c =
    let q = c.args.q in
    put_same (parts q) (put_then c.put-h.ensures (put_then c.put_digits-d.ensures c.put_digits.ensures))
