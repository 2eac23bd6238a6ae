-- `request_file_transfer::read::format_and_sizes_at` meets its contract: the format byte, then the group of two sizes, and the first refusal is the answer.
use Rattle.paper.specs.Answer.{give}
use Rattle.paper.specs.Field.{byte, size_group}
use Rattle.paper.proofs.Places.{on, off}
use Rattle.wire.proofs.Left.{leaves}
use Rattle.request_file_transfer.proofs.read.format_and_sizes_at.Goals as goal

pub returns-in_err-format : goal.returns-in_err-format
returns-in_err-format c k n = leaves _ _ c.from_residual.ensures.1 (off byte _ _ c.in_err-format.ensures.paper)

pub returns-in_err-sizes : goal.returns-in_err-sizes
returns-in_err-sizes c k n =
    leaves _ _ c.from_residual-in_err-sizes.ensures.1 (on byte _ _ c.in_ok-format.ensures.paper (off (size_group 1 2) _ _ c.in_err-sizes.ensures.paper))

pub returns : goal.returns
unfolding give
returns c k n =
    let x = c.in_ok-sizes.ensures in
    record {
      paper = on byte _ _ c.in_ok-format.ensures.paper (on (size_group 1 2) _ _ x.paper (rw c.from.ensures));
      place = ((x.place.0, x.place.1), x.place.2);
    }
