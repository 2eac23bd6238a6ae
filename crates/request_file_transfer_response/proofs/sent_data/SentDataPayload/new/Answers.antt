-- `request_file_transfer_response::sent_data::SentDataPayload::new` meets its contract: where the check tells a length it hands on the whole block length, and where it refuses nothing.
use mathlib.Core.Path.{◌∙◌}
use Rattle.paper.specs.Response.{good_block_length}
use Rattle.paper.proofs.Response.{good-block-length}
use Rattle.file_operation.proofs.Lengths.{kept-after}
use Rattle.request_file_transfer_response.proofs.sent_data.SentDataPayload.new.Goals as goal

pub returns : goal.returns
returns c =
    let block = c.args.max_number_of_block_length.now in
    let (front, kept) = c.kept_after.ensures in
    (front, kept ∙ kept-after (good_block_length block) block c.good_block_length.result (λ y e. ((good-block-length block y).0 e).0) c.good_block_length.ensures)
