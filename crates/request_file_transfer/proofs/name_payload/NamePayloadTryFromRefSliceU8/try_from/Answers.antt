-- The conversion of a slice into a record meets its contract: it holds the slice where the checks tell its length.
use mathlib.Core.Path.{refl}
use Rattle.paper.proofs.Request.{good-name}
use Rattle.request_file_transfer.proofs.Laid.{named}
use Rattle.request_file_transfer.proofs.name_payload.NamePayloadTryFromRefSliceU8.try_from.Goals as goal

pub returns : goal.returns
returns c =
    let name = c.args.name.now in
    (refl, (good-name name name).1 (refl, (named name c.in_ok-good_name.ensures).0))
