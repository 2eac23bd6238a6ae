-- What the desk's answers say, in the paper's terms.
use Rattle.std.specs.Prelude.{◌≡◌, Bool, ℕ, List, Result, Ok, Err}
use Rattle.paper.specs.Answer.{Answer, accepted, refused}
use Rattle.paper.specs.Request.{after_name}
use Rattle.paper.specs.Desk.{passes}
use Rattle.wire.specs.Refusals.{row}
use Rattle.file_operation.specs.Mode.{kind_of}
use Rattle.request_file_transfer.specs.Reading.{meant}
use Rattle.request_file_transfer.specs.declared.read.RequestFileTransferRequest.{RequestFileTransferRequest}
use Rattle.wire.specs.declared.refusal.Refusal.{Refusal}

-- the rule was kept, of a request read from any message
abbrev pub PassesRight : RequestFileTransferRequest → Bool → Type 0
PassesRight q r = (s : List ℕ) → r ≡ passes (after_name (kind_of q.kind)) (meant s q)

abbrev pub desk_said : Result (Unit {0}) Refusal → Answer (Unit {0})
desk_said (Ok t) = accepted tt
desk_said (Err e) = refused (row e)
