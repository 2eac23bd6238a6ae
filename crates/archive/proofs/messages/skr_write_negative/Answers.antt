-- `archive::messages::skr_write_negative` meets its contract: what the writer did, in its record.
use mathlib.Core.Path.{refl}
use Rattle.station.proofs.Written.{wrote_known}
use Rattle.archive.proofs.messages.skr_write_negative.Goals as goal

pub returns : goal.returns
returns c = wrote_known refl c.write_negative.ensures c.flat.ensures
