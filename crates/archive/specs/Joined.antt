-- What the record of a joined buffer says: the three numbers, and how many pieces were found, also beside a refusal.
use Rattle.std.specs.Prelude.{◌≡◌, ℕ, List}
use Rattle.paper.specs.Answer.{Answer, accepted, refused}
use Rattle.paper.specs.Joined.{taken_apart}
use Rattle.archive.specs.declared.joined.SplitRecord.{SplitRecord}

abbrev pub split_record : Answer ℕ → (found : ℕ) → SplitRecord
split_record (accepted n) found = record { number = 0; first = 0; second = 0; count = found }
split_record (refused e) found = record { number = e.number; first = e.first; second = e.second; count = found }

-- a joined buffer was taken apart into a list
abbrev pub SplitInto : (buffer old : List ℕ) → SplitRecord → List ℕ → Type 0
SplitInto buffer old r new = (r ≡ split_record (taken_apart buffer old).filled.answer (taken_apart buffer old).found) × (new ≡ (taken_apart buffer old).filled.contents)
