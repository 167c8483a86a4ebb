-- What the calls for the listing and the page have for a lent place, and what the program prints, by what the bytes read as. The sheet's
-- refusals are 1 to 6, 16 and 19.
use Rattle.model.specs.declared.Refusal.{Refusal}
use Rattle.std.specs.Prelude.{ℕ, List, Result, Ok, Err}
use Rattle.sheet.specs.Accepting.{on_sheet}
use Rattle.sheet.specs.Reading.{read_sheet}
use Rattle.listing.specs.Listing.{listing_of, refused_text}
use Rattle.page.specs.Page.{pages_of}

-- the listing of the sheet that the bytes stand for: the sheet's refusals, then 11 by the place
unfoldable pub listing_result : List ℕ → Result (List ℕ) Refusal
listing_result s = on_sheet (read_sheet s) Err (λ v. Ok (listing_of v))

-- what the program prints for a run of bytes: the listing of the sheet that they stand for, or for a refusal of the sheet the line refused=
-- with its number (`number_of`)
unfoldable pub printed_text : List ℕ → List ℕ
printed_text s = on_sheet (read_sheet s) refused_text listing_of

-- the page for the binder of the sheet that the bytes stand for: the sheet's refusals, then 11 by the place (request F-2)
unfoldable pub page_result : List ℕ → Result (List ℕ) Refusal
page_result s = on_sheet (read_sheet s) Err (λ v. Ok (pages_of v))
