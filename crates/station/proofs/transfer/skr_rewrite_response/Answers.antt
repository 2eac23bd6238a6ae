-- `station::transfer::skr_rewrite_response` meets its contract: the answer, with where its tail begins, and the contents are those of the rewriting.
use Rattle.station.proofs.Transfers.{rewrote_flat}
use Rattle.station.proofs.transfer.skr_rewrite_response.Goals as goal

pub returns : goal.returns
returns c = rewrote_flat c.rewrite_response.ensures c.flat.ensures
