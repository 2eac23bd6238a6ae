-- `message::read::negative` meets its contract: its length is judged first, then the service that is answered, and its code is marked.
use native.Mathlib.Omega.{arith}
use Rattle.std.proofs.lemmas.Result.{err_from_is_err_and}
use Rattle.message.proofs.Behind.{negative-short, negative-long, negative_off, negative_on}
use Rattle.message.proofs.read.negative.Goals as goal

pub returns-then-len-lt3 : goal.returns-then-len-lt3
returns-then-len-lt3 c = negative-short c.args.s.now c.requires c.if-len-lt3.true

pub returns-then-len-gt3 : goal.returns-then-len-gt3
returns-then-len-gt3 c = negative-long c.args.s.now c.requires c.if-len-gt3.true

pub returns-in_err-service : goal.returns-in_err-service
returns-in_err-service c =
    let e = err_from_is_err_and c.from_residual.result c.from_residual.ensures.1 in
    rw (e.1, e.2) (negative_off c.args.s.now (omega arith) c.in_err-service.ensures)

pub returns : goal.returns
returns c = negative_on c.args.s.now c.in_ok-service.service (omega arith) c.in_ok-service.ensures c.is_listed-listed.ensures
