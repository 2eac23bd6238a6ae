-- `request_file_transfer_response::write::more_len` meets its contract: each arm knows its variant, and the widths are the smallest.
use mathlib.Core.Path.{sym}
use native.Mathlib.Omega.{arith}
use Rattle.paper.proofs.Bytes.{length_to_bytes}
use Rattle.wire.proofs.FieldBytes.{length_one, length_two}
use Rattle.request_file_transfer_response.proofs.write.more_len.Goals as goal

pub returns-in-TwoSizes : goal.returns-in-TwoSizes
returns-in-TwoSizes c = let w = c.width_of_both.ensures in rw c.in-TwoSizes.is (omega (arith, length_two 2 w), omega (arith, w.holds.within))

pub returns-in-OneSize : goal.returns-in-OneSize
returns-in-OneSize c = let w = c.width_of.ensures in rw c.in-OneSize.is (omega (arith, length_one 2 w), omega (arith, w.holds.within))

pub returns-in-Position : goal.returns-in-Position
returns-in-Position c = rw c.in-Position.is (sym (length_to_bytes 8 0), omega arith)
