-- `parts::write::write_two_sizes` meets its contract: the two sizes of the halves are written.
use mathlib.Core.Path.{refl}
use Rattle.station.proofs.Written.{wrote_known}
use Rattle.parts.proofs.write.write_two_sizes.Goals as goal

pub returns : goal.returns
returns c = wrote_known refl c.put_two_sizes.ensures c.flat.ensures
