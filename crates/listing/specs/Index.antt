-- What an index and a lookup say, in the paper's terms.
use Rattle.std.specs.Prelude.{◌≡◌, ℕ, List, Option, Some, None, Result, Ok, Err}
use Rattle.paper.specs.Answer as paper-answer
use Rattle.paper.specs.Answer.{accepted, refused, no_such_code}
use Rattle.paper.specs.Listing as paper
use Rattle.paper.specs.Listing.{Found, head_of, index_in}
use Rattle.wire.specs.Refusals.{row}
use Rattle.wire.specs.declared.refusal.Refusal.{Refusal}
use Rattle.listing.specs.Listing.{listed_of, head_said}
use Rattle.listing.specs.declared.Listed.{Listed}
use Rattle.listing.specs.declared.index.Index.{Index}
use Rattle.listing.specs.declared.index.Indexed.{Indexed}

-- the index that two lists are
abbrev pub numbers_in : List ℕ → List ℕ → paper.Index
numbers_in cs fs = record { counts = cs; firsts = fs }

abbrev pub index_said : Index → paper.Index
index_said x = numbers_in x.counts x.firsts

-- the answer r is the head and the index of what was read
pub record IndexedRight (a : paper-answer.Answer paper.Listing) (r : Indexed) : Type 0 where
  pub head : head_said r.listing ≡ head_of a
  pub index : index_said r.index ≡ index_in a

-- what a search says: a place and its record, or that no record has the code
abbrev pub found_said : Option (ℕ × Listed) → paper-answer.Answer Found
found_said (Some (k, r)) = accepted (record { place = k; «record» = listed_of r })
found_said None = refused no_such_code

-- what a lookup says
abbrev pub look_said : Result (ℕ × Listed) Refusal → paper-answer.Answer Found
look_said (Ok (k, r)) = accepted (record { place = k; «record» = listed_of r })
look_said (Err e) = refused (row e)
