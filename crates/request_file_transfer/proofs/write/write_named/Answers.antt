-- `request_file_transfer::write::write_named` meets its contract: the fields of a request with a good name, each in the room that begins where the previous one ended.
use borrow.Author.Rules.{rules}
use Rattle.request_file_transfer.proofs.Laid.{as_many, no_room_lem, laid_out_lem}
use Rattle.request_file_transfer.proofs.write.write_named.Goals as goal

pub request_len-message_len-requires : goal.request_len-message_len-requires
request_len-message_len-requires c = let is = c.requires in search rules

pub returns-then-room-message_len : goal.returns-then-room-message_len
returns-then-room-message_len c = let a = c.args in no_room_lem a.kind _ a.size _ c.requires c.request_len-message_len.ensures c.if-room-message_len.true

pub put_rest-requires : goal.put_rest-requires
put_rest-requires c =
    let a = c.args in
    let n = as_many a.kind a.file_path_and_name.now a.size a.data_format_identifier.0 in
    rw c.after_name.ensures (search rules)

pub returns : goal.returns
returns c =
    let a = c.args in
    laid_out_lem a.kind _ a.size _ c.requires c.request_len-message_len.ensures c.if-room-message_len.false c.after_name.ensures
    (rw c.into.ensures at c.put_byte.ensures) c.put_counted.ensures c.put_rest.ensures
