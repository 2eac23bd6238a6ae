-- `workshop::texts::skr_code_text` meets its contract: the code of the three bytes is written.
use mathlib.Core.Path.{refl}
use Rattle.station.proofs.Written.{wrote_known}
use Rattle.workshop.proofs.texts.skr_code_text.Goals as goal

pub returns : goal.returns
returns c = wrote_known refl (rw c.new.ensures at c.put_code_text.ensures) c.flat.ensures
