-- Document 02, Req 13, of the calls of this crate: what `read_request` and `rewrite_request` promise of requests that are joined without lengths.
-- Assumes nothing.
use Rattle.paper.proofs.Joined.{request_joinable}
use Rattle.file_operation.specs.Joined.{JoinedCalls}
use Rattle.file_operation.proofs.Joined.{calls_joinable}
use Rattle.request_file_transfer.specs.declared.read.RequestFileTransferRequest.{RequestFileTransferRequest}
use Rattle.request_file_transfer.proofs.DemandThree.{ReadRequestCall, RewriteRequestCall, requests-keep}

pub requests_joinable : JoinedCalls RequestFileTransferRequest ReadRequestCall RewriteRequestCall
requests_joinable = calls_joinable requests-keep request_joinable
