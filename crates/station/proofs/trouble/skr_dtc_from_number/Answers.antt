-- `station::trouble::skr_dtc_from_number` meets its contract: the record of the answer about the number is that of the paper's.
use Rattle.dtc.specs.Status.{number_said}
use Rattle.station.specs.Records.{code_record}
use Rattle.station.proofs.Flats.{flat_said}
use Rattle.station.proofs.trouble.skr_dtc_from_number.Goals as goal

pub returns : goal.returns
returns c = flat_said code_record number_said c.try_from.result c.try_from.ensures c.flat.ensures
