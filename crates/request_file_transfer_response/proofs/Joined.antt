-- Document 02, Req 13, of the calls of this crate: what `read_response` and `rewrite_response` promise of responses that are joined without lengths.
-- Assumes nothing.
use Rattle.paper.proofs.Joined.{response_joinable}
use Rattle.file_operation.specs.Joined.{JoinedCalls}
use Rattle.file_operation.proofs.Joined.{calls_joinable}
use Rattle.request_file_transfer_response.specs.declared.read.RequestFileTransferResponse.{RequestFileTransferResponse}
use Rattle.request_file_transfer_response.proofs.DemandThree.{ReadResponseCall, RewriteResponseCall, responses_keep}

pub responses_joinable : JoinedCalls RequestFileTransferResponse ReadResponseCall RewriteResponseCall
responses_joinable = calls_joinable responses_keep response_joinable
