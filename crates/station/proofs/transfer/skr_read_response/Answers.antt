-- `station::transfer::skr_read_response` meets its contract: what was read is right, so its record is that of the paper's answer.
use Rattle.station.proofs.Transfers.{response_flat}
use Rattle.station.proofs.transfer.skr_read_response.Goals as goal

pub returns : goal.returns
returns c = response_flat _ c.read_response.result c.read_response.ensures c.flat.ensures
