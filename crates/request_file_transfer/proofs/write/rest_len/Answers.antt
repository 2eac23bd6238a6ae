-- `request_file_transfer::write::rest_len` meets its contract: after the format byte stands a width in one byte, and two sizes of that width.
use native.Mathlib.Omega.{arith}
use Rattle.wire.proofs.FieldBytes.{length_two}
use Rattle.request_file_transfer.proofs.write.rest_len.Goals as goal

pub returns-in-FormatAndSizes : goal.returns-in-FormatAndSizes
returns-in-FormatAndSizes c =
    let w = c.width_of_both.ensures in
    let two = length_two 1 w in
    rw c.in-FormatAndSizes.is (omega arith, omega (arith, w.holds.within))
