-- `request_file_transfer_response::read::position_at` meets its contract: the position's refusal is the answer's, and its number is all that is told.
use native.Mathlib.Omega.{arith}
use Rattle.paper.specs.Field.{number}
use Rattle.paper.proofs.Places.{on, off}
use Rattle.wire.proofs.Left.{leaves}
use Rattle.request_file_transfer_response.proofs.Cases.{no_sizes}
use Rattle.request_file_transfer_response.proofs.read.position_at.Goals as goal

pub returns-in_err-file_position : goal.returns-in_err-file_position
returns-in_err-file_position c k b f = leaves _ _ c.from_residual.ensures.1 (off (number 8) _ _ c.in_err-file_position.ensures.paper)

pub returns : goal.returns
returns c k b f =
    let p = c.in_ok-file_position.ensures in
    record {
      paper = on (number 8) _ _ p.paper (no_sizes k b f c.without_sizes.result c.without_sizes.ensures);
      place = ((omega arith, omega arith), p.place.1);
    }
