-- `write_sheet::head_text::put_counted` meets its contract: the count's line is put, and then the numbers' lines.
use Rattle.text.proofs.Putting.{put_then}
use Rattle.write_sheet.proofs.head_text.put_counted.Goals as goal

pub returns : goal.returns
returns c = put_then c.put_number-first.ensures c.put_numbers.ensures
