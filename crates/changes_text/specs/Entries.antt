-- What is printed, from the bytes in which entries are listed and from which listing was refused.
use Rattle.std.specs.Prelude.{ℕ, zero, suc, List, [], ◌++◌, drop, eqb}
use Rattle.paper.specs.Choice.{pick}
use Rattle.paper.specs.ReadingProgram.{ascii}
use Rattle.paper.specs.Changes.{entry_in}
use Rattle.paper.specs.ChangesProgram.{entry_line, refused_first, refused_second}
use Rattle.wire.specs.Refusals.{row}
use Rattle.listing.specs.declared.changes.ChangesRefusal.{ChangesRefusal}
use Rattle.listing.specs.declared.changes.ChangesRefusal.TheVariants.{First, Second, Room}

-- the lines of n entries, of six bytes each
unfoldable pub lines_in : ℕ → List ℕ → List ℕ
lines_in zero s = []
lines_in (suc n) s = entry_line (entry_in s) ++ lines_in n (drop 6 s)

-- what is said of them: that there is none, or their lines
abbrev pub changes_said : ℕ → List ℕ → List ℕ
changes_said n s = pick (eqb n 0) (ascii "no changes\n") (lines_in n s)

-- what is said of a refusal: of the first listing, or of the second
abbrev pub refused_said : ChangesRefusal → List ℕ
refused_said (First e) = refused_first (row e)
refused_said (Second e) = refused_second (row e)
refused_said (Room e) = refused_second (row e)
