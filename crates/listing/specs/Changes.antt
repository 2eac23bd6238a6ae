-- What a comparison of two listings says, in the paper's terms.
use Rattle.std.specs.Prelude.{◌≡◌, ℕ, List, [], ◌∷◌, Option, Some, None, Result, Ok, Err}
use Rattle.paper.specs.Answer as paper-answer
use Rattle.paper.specs.Answer.{accepted, refused}
use Rattle.paper.specs.Listing as paper
use Rattle.paper.specs.Listing.{find, Found}
use Rattle.paper.specs.Changes as paper-changes
use Rattle.paper.specs.Changes.{gone, differs, added, entries_bytes, of_first, of_second, entries_of, Compared}
use Rattle.wire.specs.Refusals.{row}
use Rattle.dtc.specs.Status.{code_of}
use Rattle.listing.specs.declared.changes.Entry.{Entry}
use Rattle.listing.specs.declared.changes.Entry.TheVariants.{Gone, Differs, New}
use Rattle.listing.specs.declared.changes.Half.{Half}
use Rattle.listing.specs.declared.changes.Half.TheVariants as half
use Rattle.listing.specs.declared.changes.ChangesRefusal.{ChangesRefusal}
use Rattle.listing.specs.declared.changes.ChangesRefusal.TheVariants.{First, Second, Room}

abbrev pub entry_said : Entry → paper-changes.Entry
entry_said (Gone c old) = gone (code_of c) old.bits
entry_said (Differs c old new) = differs (code_of c) old.bits new.bits
entry_said (New c new) = added (code_of c) new.bits

abbrev pub entries_said : Option Entry → List paper-changes.Entry
entries_said None = []
entries_said (Some e) = entry_said e ∷ []

-- the bytes of an entry: none where nothing is listed
abbrev pub bytes_said : Option Entry → List ℕ
bytes_said e = entries_bytes (entries_said e)

-- what is listed of a record of the first listing, or of the second
abbrev pub of_half : Half → paper.Listed → paper-answer.Answer Found → List paper-changes.Entry
of_half half.First = of_first
of_half half.Second = of_second

-- its bytes, against the other listing's records; and those of all that is listed of some records
abbrev pub entry_of : Half → (other : List paper.Listed) → paper.Listed → List ℕ
entry_of h other r = entries_bytes (of_half h r (find 0 r.code other))

unfoldable pub half_bytes : Half → (other records : List paper.Listed) → List ℕ
half_bytes h other rs = entries_bytes (entries_of (of_half h) other rs)

-- which listing is refused: 0 neither, 1 the first, 2 the second
abbrev pub which_said : Result ℕ ChangesRefusal → ℕ
which_said (Ok n) = 0
which_said (Err (First e)) = 1
which_said (Err (Second e)) = 2
which_said (Err (Room e)) = 0

-- how many bytes are written, or why none
abbrev pub changes_told : Result ℕ ChangesRefusal → paper-answer.Answer ℕ
changes_told (Ok n) = accepted n
changes_told (Err (First e)) = refused (row e)
changes_told (Err (Second e)) = refused (row e)
changes_told (Err (Room e)) = refused (row e)

-- the promise: which listing was refused, the answer, and what the whole room holds afterwards
pub record ComparedRight (x : Compared) (r : Result ℕ ChangesRefusal) (after : List ℕ) : Type 0 where
  pub which : which_said r ≡ x.which
  pub answer : changes_told r ≡ x.filled.answer
  pub contents : after ≡ x.filled.contents
