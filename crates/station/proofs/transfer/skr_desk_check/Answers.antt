-- `station::transfer::skr_desk_check` meets its contract: the record of what the desk says is that of the paper's answer.
use Rattle.desk_check.specs.Desk.{desk_said}
use Rattle.station.specs.Records.{desk_record}
use Rattle.station.proofs.Flats.{flat_said}
use Rattle.station.proofs.transfer.skr_desk_check.Goals as goal

pub returns : goal.returns
returns c = flat_said desk_record desk_said c.desk_check.result c.desk_check.ensures c.flat.ensures
