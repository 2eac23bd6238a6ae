-- `parts::write::skr_write_block_length` meets its contract: its count is the check, and the block length is written.
use Rattle.station.proofs.Written.{wrote_known}
use Rattle.parts.proofs.Handing.{block-length-handed}
use Rattle.parts.proofs.write.skr_write_block_length.Goals as goal

pub returns : goal.returns
returns c = wrote_known (block-length-handed _) c.put_counted.ensures c.flat.ensures
