-- `request_file_transfer_response::write::put_more` meets its contract: each arm knows its variant, and fills what its leaf fills.
use Rattle.wire.proofs.Over.{filled_none}
use Rattle.request_file_transfer_response.proofs.write.put_more.Goals as goal

pub returns-in-Nothing : goal.returns-in-Nothing
returns-in-Nothing c = rw c.in-Nothing.is filled_none
