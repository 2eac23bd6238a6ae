-- `parts::write::skr_write_dir_size` meets its contract: the size of the halves is written.
use mathlib.Core.Path.{refl}
use Rattle.station.proofs.Written.{wrote_known}
use Rattle.parts.proofs.write.skr_write_dir_size.Goals as goal

pub returns : goal.returns
returns c = wrote_known refl c.put_one_size.ensures c.flat.ensures
