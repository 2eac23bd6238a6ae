-- `parts::read::skr_read_dir_size` meets its contract: what was read is right, so its record is that of the paper's answer.
use Rattle.parts.proofs.Flats.{one_size_flat}
use Rattle.parts.proofs.read.skr_read_dir_size.Goals as goal

pub returns : goal.returns
returns c = one_size_flat 2 _ c.one_size_at.result c.one_size_at.ensures c.flat.ensures
