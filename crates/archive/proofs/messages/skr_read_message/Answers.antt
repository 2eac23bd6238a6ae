-- `archive::messages::skr_read_message` meets its contract: what was read is right, so its record is that of the paper's answer.
use Rattle.archive.proofs.Whole.{message_flat}
use Rattle.archive.proofs.messages.skr_read_message.Goals as goal

pub returns : goal.returns
returns c = message_flat _ c.read_message.result c.read_message.ensures c.flat.ensures
