-- `parts::read::skr_read_sizes` meets its contract: what was read is right, so its record is that of the paper's answer.
use Rattle.parts.proofs.Flats.{two_sizes_flat}
use Rattle.parts.proofs.read.skr_read_sizes.Goals as goal

pub returns : goal.returns
returns c = two_sizes_flat 1 _ c.two_sizes_at.result c.two_sizes_at.ensures c.flat.ensures
