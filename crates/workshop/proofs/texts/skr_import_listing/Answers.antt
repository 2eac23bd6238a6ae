-- `workshop::texts::skr_import_listing` meets its contract: the text is imported with the mask of the byte.
use mathlib.Core.Path.{refl}
use Rattle.station.proofs.Written.{wrote_known}
use Rattle.workshop.proofs.texts.skr_import_listing.Goals as goal

pub returns : goal.returns
returns c = wrote_known refl (rw c.from_bits.ensures at c.import_listing.ensures) c.flat.ensures
