-- `parts::read::skr_read_block_length` meets its contract: what was read is right, so its record is that of the paper's answer.
use Rattle.parts.proofs.Flats.{part_flat}
use Rattle.parts.proofs.read.skr_read_block_length.Goals as goal

pub returns : goal.returns
returns c = part_flat 1 _ c.counted_at.result c.counted_at.ensures c.flat.ensures
