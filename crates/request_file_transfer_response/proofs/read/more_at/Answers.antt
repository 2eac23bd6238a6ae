-- `request_file_transfer_response::read::more_at` meets its contract: each arm is the reader that the paper has for its layout; where nothing stands, no byte is taken, and all is 0.
use native.Mathlib.Omega.{arith}
use Rattle.request_file_transfer_response.proofs.Cases.{no_sizes}
use Rattle.request_file_transfer_response.proofs.read.more_at.Goals as goal

pub returns-in-Nothing : goal.returns-in-Nothing
returns-in-Nothing c =
    rw c.in-Nothing.is
    (λ k b f. record { paper = no_sizes k b f c.without_sizes.result c.without_sizes.ensures; place = ((omega arith, omega arith), omega arith) })

pub returns-in-TwoSizes : goal.returns-in-TwoSizes
returns-in-TwoSizes c = rw c.in-TwoSizes.is c.file_size_at.ensures

pub returns-in-OneSize : goal.returns-in-OneSize
returns-in-OneSize c = rw c.in-OneSize.is c.dir_size_at.ensures

pub returns-in-Position : goal.returns-in-Position
returns-in-Position c = rw c.in-Position.is c.position_at.ensures
