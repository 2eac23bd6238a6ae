-- `request_file_transfer_response::write::write_response` meets its contract: the checks come first, and then the fields of the kind's row, each in the room that begins where the previous one ended.
use native.Mathlib.Omega.{arith}
use Rattle.request_file_transfer_response.proofs.Cases.{err_is}
use Rattle.request_file_transfer_response.proofs.Laid.{too_long_lem, no_room_lem, mode_alone, block_room, each-field}
use Rattle.request_file_transfer_response.proofs.write.write_response.Goals as goal

pub returns-in_err-message_len : goal.returns-in_err-message_len
returns-in_err-message_len c = rw (err_is _ _ c.from_residual.ensures.1) (too_long_lem c.args.kind _ c.args.file_size _ _ _ c.in_err-message_len.ensures)

pub returns-then-room-message_len : goal.returns-then-room-message_len
returns-then-room-message_len c = no_room_lem c.args.kind _ c.args.file_size _ _ c.in_ok-message_len.ensures (omega arith)

pub returns-in_default : goal.returns-in_default
returns-in_default c =
    mode_alone c.args.kind _ c.args.file_size _ _ c.in_ok-message_len.ensures
    (rw c.in_default.is at c.after_mode.ensures)
    (omega arith)
    (rw c.into.ensures at c.put_byte.ensures)

pub prove-unreachable-requires : goal.prove-unreachable-requires
prove-unreachable-requires c = let room = block_room c.args.kind c.args.max_number_of_block_length.now c.args.file_size c.in_ok-message_len.ensures (rw c.in-Some.is at c.after_mode.ensures) in omega arith

pub returns : goal.returns
returns c =
    each-field c.args.kind _ c.args.file_size _ _ c.in_ok-message_len.ensures
    (rw c.in-Some.is at c.after_mode.ensures)
    (omega arith)
    (rw c.into.ensures at c.put_byte.ensures)
    c.put_counted.ensures
    (rw c.into-2.ensures at c.put_byte-2.ensures)
    c.put_more.ensures
