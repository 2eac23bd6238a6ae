-- `request_file_transfer_response::sent_data::good_block_length` meets its contract: its one test is the paper's.
use borrow.Author.Tests.{lt-leb, le-leb}
use Rattle.paper.specs.Response.{good_block_length}
use Rattle.request_file_transfer_response.proofs.sent_data.good_block_length.Goals as goal

pub returns-then-len-gt255 : goal.returns-then-len-gt255
unfolding good_block_length
returns-then-len-gt255 c = rw (lt-leb _ _ c.if-len-gt255.true)

pub returns : goal.returns
unfolding good_block_length
returns c = rw (le-leb _ _ c.if-len-gt255.false)
