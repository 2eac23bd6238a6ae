-- `parts::read::skr_read_name` meets its contract: what was read is right, so its record is that of the paper's answer.
use Rattle.parts.proofs.Flats.{part_flat}
use Rattle.parts.proofs.read.skr_read_name.Goals as goal

pub returns : goal.returns
returns c = part_flat 2 _ c.name_at.result c.name_at.ensures c.flat.ensures
