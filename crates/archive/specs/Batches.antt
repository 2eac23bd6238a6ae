-- What the record of a batch says: the three numbers and nothing more, as the desk's. How many messages were read, whoever lent the lengths knows.
use Rattle.std.specs.Prelude.{◌≡◌, ℕ, List}
use Rattle.paper.specs.Answer.{Answer, accepted, refused}
use Rattle.paper.specs.Batch.{read_batch}
use Rattle.station.specs.declared.records.DeskRecord.{DeskRecord}

abbrev pub batch_record : Answer ℕ → DeskRecord
batch_record (accepted n) = record { number = 0; first = 0; second = 0 }
batch_record (refused e) = record { number = e.number; first = e.first; second = e.second }

-- a batch was read into a list
abbrev pub BatchRead : (buffer lengths old : List ℕ) → DeskRecord → List ℕ → Type 0
BatchRead buffer lengths old r new = (r ≡ batch_record (read_batch buffer lengths old).answer) × (new ≡ (read_batch buffer lengths old).contents)
