-- `archive::why::skr_why_response` meets its contract: the record of the reason is that of the paper's.
use Rattle.reason.specs.Reason.{why_said}
use Rattle.station.proofs.Flats.{flat_said}
use Rattle.archive.specs.Why.{why_record}
use Rattle.archive.proofs.why.skr_why_response.Goals as goal

pub returns : goal.returns
returns c = flat_said why_record why_said c.why_response.result c.why_response.ensures c.flat.ensures
