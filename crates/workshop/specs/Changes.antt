-- What the door for changes hands out: a flat record, with which listing was refused beside the numbers.
use Rattle.std.specs.Prelude.{ℕ, ◌≡◌, List}
use Rattle.paper.specs.Answer.{Answer, accepted, refused}
use Rattle.paper.specs.Changes.{Compared}
use Rattle.workshop.specs.declared.changes.ChangesRecord.{ChangesRecord}

abbrev pub changes_record : (which : ℕ) → Answer ℕ → ChangesRecord
changes_record which (accepted n) = record { number = 0; first = 0; second = 0; which = which; written = n }
changes_record which (refused e) = record { number = e.number; first = e.first; second = e.second; which = which; written = 0 }

-- two listings were compared into a room
abbrev pub ComparedRecord : Compared → ChangesRecord → List ℕ → Type 0
ComparedRecord x r new = (r ≡ changes_record x.which x.filled.answer) × (new ≡ x.filled.contents)
