-- `request_file_transfer::read::format_at` meets its contract: the byte's refusal is the answer, and after a byte both sizes are 0.
use Rattle.paper.specs.Field.{byte}
use Rattle.paper.proofs.Places.{on, off}
use Rattle.wire.proofs.Left.{leaves}
use Rattle.request_file_transfer.proofs.Rests.{without_sizes, zero_halves}
use Rattle.request_file_transfer.proofs.read.format_at.Goals as goal

pub returns-in_err-format : goal.returns-in_err-format
returns-in_err-format c k n = leaves _ _ c.from_residual.ensures.1 (off byte _ _ c.in_err-format.ensures.paper)

pub returns : goal.returns
returns c k n =
    let f = c.in_ok-format.ensures in
    let x = c.without_sizes in
    record { paper = on byte _ _ f.paper (without_sizes x.result x.ensures k n _); place = (zero_halves x.result x.ensures, f.place.1) }
