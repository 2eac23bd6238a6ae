-- `request_file_transfer::read::nothing_at` meets its contract: no byte is taken, and all that is not there is 0.
use Rattle.request_file_transfer.proofs.Rests.{without_sizes, zero_halves}
use Rattle.request_file_transfer.proofs.read.nothing_at.Goals as goal

pub returns : goal.returns
returns c = let x = c.without_sizes in λ k n. record { paper = without_sizes x.result x.ensures k n _; place = (zero_halves x.result x.ensures, c.requires) }
