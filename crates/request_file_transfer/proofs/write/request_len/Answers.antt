-- `request_file_transfer::write::request_len` meets its contract: the mode, the count and the name, and what the kind has after them.
use Rattle.request_file_transfer.proofs.write.request_len.Goals as goal

pub returns : goal.returns
returns c = rw (c.rest_len.ensures.0, c.after_name.ensures)
