-- `listing::row_text::put_row` meets its contract: the lines are those of the row.
use mathlib.Core.List.{append-nil}
use Rattle.text.specs.Texts.{lines_text}
use Rattle.text.proofs.Putting.{put_same}
use Rattle.listing.specs.RowListing.{row_listing}
use Rattle.listing.proofs.row_text.put_row.Goals as goal

pub put_lines-requires : goal.put_lines-requires
unfolding lines_text row_listing
put_lines-requires c = simp append-nil c.requires

pub returns : goal.returns
unfolding lines_text row_listing
returns c = put_same (simp append-nil) c.put_lines.ensures
