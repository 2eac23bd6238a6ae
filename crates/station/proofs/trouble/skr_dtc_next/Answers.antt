-- `station::trouble::skr_dtc_next` meets its contract: the next code, in its flat form, is the paper's.
use Rattle.station.proofs.Codes.{next_flat}
use Rattle.station.proofs.trouble.skr_dtc_next.Goals as goal

pub returns : goal.returns
returns c = next_flat c.args.buffer.now c.decode_next.result c.decode_next.ensures c.flat.ensures
