-- `routine_control::routine_bytes::write_routine` meets its contract: the checks come first, and then the three parts, each in the room that begins where the previous one ended.
use Rattle.routine_control.proofs.Laid.{no_room_lem, laid_out_lem}
use borrow.Author.Rules.{rules}
use Rattle.routine_control.proofs.routine_bytes.write_routine.Goals as goal

pub returns-then-room-needed : goal.returns-then-room-needed
returns-then-room-needed c = let a = c.args in no_room_lem a.control a.identifier a.record.now (search rules) (search rules)

pub returns : goal.returns
returns c =
    let a = c.args in
    laid_out_lem a.control a.identifier a.record.now (search rules) (search rules) c.put_byte.ensures c.put_two.ensures c.put_bytes.ensures
