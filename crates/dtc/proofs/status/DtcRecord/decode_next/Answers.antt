-- `dtc::status::DtcRecord::decode_next` meets its contract: the message has ended, or the next record is as `decode` has it.
use native.Mathlib.Omega.{arith}
use borrow.Author.Rules.{rules}
use Rattle.dtc.proofs.Records.{next_there, next-refused}
use Rattle.dtc.proofs.status.DtcRecord.decode_next.Goals as goal

pub returns-in_err-code : goal.returns-in_err-code
returns-in_err-code c =
    let a = c.args in
    let known = next-refused a.s.now a.at (omega arith) c.in_err-code.ensures in
    search rules

pub returns : goal.returns
returns c = let a = c.args in next_there a.s.now a.at (omega arith) c.in_ok-code.ensures
