-- The listing whose records can be searched, in the paper's terms.
use Rattle.std.specs.Prelude.{List, Result, Ok, Err}
use Rattle.paper.specs.Answer.{Answer, accepted, refused}
use Rattle.paper.specs.Listing as paper
use Rattle.wire.specs.Refusals.{row}
use Rattle.wire.specs.declared.refusal.Refusal.{Refusal}
use Rattle.listing.specs.Records.{listed_in, listing_of}
use Rattle.listing.specs.declared.searchable.Searchable.{Searchable}

abbrev pub searched : Searchable → List paper.Listed
searched x = listed_in x.records

-- what reading says
abbrev pub searched_said : Result Searchable Refusal → Answer paper.Listing
searched_said (Ok x) = accepted (listing_of x.records)
searched_said (Err e) = refused (row e)
