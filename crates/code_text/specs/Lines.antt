-- What is written of a listing's records, and when a text is whole lines.
use Rattle.std.specs.Prelude.{ℕ, ◌/◌, ◌≤◌, ◌≡◌, List, [], length}
use Rattle.std.proofs.Math.Option.{Option, none, some}
use Rattle.paper.specs.Answer.{Answer, accepted, refused}
use Rattle.paper.specs.Listing.{Listed, Listing}
use Rattle.paper.specs.CodeText.{lines, line_text, NoneBad}

-- the line of a record, or nothing
abbrev pub line_shown : Option Listed → List ℕ
line_shown none = []
line_shown (some r) = line_text r

-- the records that were read; none of a listing that is refused
abbrev pub records_read : Answer Listing → List Listed
records_read (accepted l) = l.records
records_read (refused e) = []

-- a text of n right lines, few enough
pub record WholeLines (n : ℕ) (t : List ℕ) : Type 0 where
  pub few : n ≤ 4096
  pub many : n ≡ length t / 12
  pub right : NoneBad lines t
