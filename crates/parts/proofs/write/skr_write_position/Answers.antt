-- `parts::write::skr_write_position` meets its contract: the position is written.
use mathlib.Core.Path.{refl}
use Rattle.station.proofs.Written.{wrote_known}
use Rattle.parts.proofs.write.skr_write_position.Goals as goal

pub returns : goal.returns
returns c = wrote_known refl c.put_eight.ensures c.flat.ensures
