-- `text::put_number` meets its contract: the key is put, and then the digits and the line feed.
use Rattle.text.proofs.Putting.{put_then}
use Rattle.text.proofs.put_number.Goals as goal

pub returns : goal.returns
returns c = put_then c.put-value.ensures c.put_digits.ensures
