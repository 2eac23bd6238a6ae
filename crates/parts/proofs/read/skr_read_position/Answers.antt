-- `parts::read::skr_read_position` meets its contract: what was read is right, so its record is that of the paper's answer.
use Rattle.parts.proofs.Flats.{position_flat}
use Rattle.parts.proofs.read.skr_read_position.Goals as goal

pub returns : goal.returns
returns c = position_flat _ c.eight_at.result c.eight_at.ensures c.flat.ensures
