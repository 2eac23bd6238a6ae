-- `request_file_transfer_response::read::file_size_at` meets its contract: the group's refusal is the answer's, and its two sizes are all that is told.
use mathlib.Core.Path.{refl}
use Rattle.paper.specs.Answer.{give}
use Rattle.paper.specs.Field.{size_group}
use Rattle.paper.proofs.Places.{on, off}
use Rattle.wire.proofs.Left.{leaves}
use Rattle.request_file_transfer_response.proofs.read.file_size_at.Goals as goal

pub returns-in_err-sizes : goal.returns-in_err-sizes
returns-in_err-sizes c k b f = leaves _ _ c.from_residual.ensures.1 (off (size_group 2 2) _ _ c.in_err-sizes.ensures.paper)

pub returns : goal.returns
unfolding give
returns c k b f = let g = c.in_ok-sizes.ensures in record { paper = on (size_group 2 2) _ _ g.paper refl; place = ((g.place.0, g.place.1), g.place.2) }
