-- `request_file_transfer::write::put_format_and_sizes` meets its contract: the format byte, and the sizes in the room after it.
use mathlib.Core.Path.{refl}
use Rattle.wire.proofs.Over.{filled_more}
use Rattle.wire.proofs.Writes.{filled}
use Rattle.request_file_transfer.proofs.write.put_format_and_sizes.Goals as goal

pub returns : goal.returns
returns c =
    filled_more 1 (rw c.into.ensures at (filled refl c.put_byte.ensures)) (filled refl c.put_two_sizes.ensures) refl
