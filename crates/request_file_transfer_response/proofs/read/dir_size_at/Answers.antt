-- `request_file_transfer_response::read::dir_size_at` meets its contract: the group's refusal is the answer's, and its one size is the uncompressed.
use mathlib.Core.Path.{refl}
use native.Mathlib.Omega.{arith}
use Rattle.paper.specs.Answer.{give}
use Rattle.paper.specs.Field.{size_group}
use Rattle.paper.proofs.Places.{on, off}
use Rattle.wire.proofs.Left.{leaves}
use Rattle.request_file_transfer_response.proofs.read.dir_size_at.Goals as goal

pub returns-in_err-file_size_uncompressed : goal.returns-in_err-file_size_uncompressed
returns-in_err-file_size_uncompressed c k b f = leaves _ _ c.from_residual.ensures.1 (off (size_group 2 1) _ _ c.in_err-file_size_uncompressed.ensures.paper)

pub returns : goal.returns
unfolding give
returns c k b f =
    let g = c.in_ok-file_size_uncompressed.ensures in
    record { paper = on (size_group 2 1) _ _ g.paper refl; place = ((g.place.0, omega arith), g.place.1) }
