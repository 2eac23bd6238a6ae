-- `station::transfer::skr_read_request` meets its contract: what was read is right, so its record is that of the paper's answer.
use Rattle.station.proofs.Transfers.{request_flat}
use Rattle.station.proofs.transfer.skr_read_request.Goals as goal

pub returns : goal.returns
returns c = request_flat _ c.read_request.result c.read_request.ensures c.flat.ensures
