-- `request_file_transfer::write::put_rest` meets its contract: what stands after the name, arm by arm.
use mathlib.Core.Path.{refl}
use native.Mathlib.Omega.{arith}
use Rattle.wire.proofs.Over.{filled_none}
use Rattle.wire.proofs.Writes.{filled}
use Rattle.request_file_transfer.proofs.write.put_rest.Goals as goal

pub put_format_and_sizes-requires : goal.put_format_and_sizes-requires
put_format_and_sizes-requires c = omega (arith, rw c.in-FormatAndSizes.is at c.requires)

pub returns-in-FormatAndSizes : goal.returns-in-FormatAndSizes
returns-in-FormatAndSizes c = rw c.in-FormatAndSizes.is c.put_format_and_sizes.ensures

pub returns-in-Nothing : goal.returns-in-Nothing
returns-in-Nothing c = rw c.in-Nothing.is filled_none

pub returns-in-FormatOnly : goal.returns-in-FormatOnly
returns-in-FormatOnly c =
    rw (c.in-FormatOnly.is, ← c.into.ensures) (filled refl c.put_byte.ensures)
