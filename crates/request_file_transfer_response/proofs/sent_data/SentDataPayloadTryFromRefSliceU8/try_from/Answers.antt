-- The conversion of a slice into a record meets its contract: it holds the slice where the check tells its length.
use mathlib.Core.Path.{refl}
use Rattle.paper.proofs.Response.{good-block-length}
use Rattle.request_file_transfer_response.proofs.Laid.{short}
use Rattle.request_file_transfer_response.proofs.sent_data.SentDataPayloadTryFromRefSliceU8.try_from.Goals as goal

pub returns : goal.returns
returns c =
    let block = c.args.block.now in
    (refl, (good-block-length block block).1 (refl, (short block c.in_ok-good_block_length.ensures).0))
