-- The text is given up, or the bytes stand after it.
use Rattle.std.proofs.Common.{arith}
use Rattle.oracle_text.proofs.Added.{given_up, no_room_lem, adds}
use Rattle.oracle_text.proofs.text.put.Goals.{then-at-eq0-via-then-at-eq0, then-at-eq0-via-else-at-eq0+then-out-at, then-at-eq0-via-else-at-eq0+else-out-at+then-out-at-2}
use Rattle.oracle_text.proofs.text.put.Goals as goal

pub returns-then-at-eq0 : goal.returns-then-at-eq0
returns-then-at-eq0 c =
    let a = c.args in
    elim c.then-at-eq0.branch [
      | then-at-eq0-via-then-at-eq0 w ↦ given_up a.bytes.now a.out.now a.at w.if-at-eq0.true
      | then-at-eq0-via-else-at-eq0+then-out-at w ↦ no_room_lem a.bytes.now a.out.now a.at (omega arith)
      | then-at-eq0-via-else-at-eq0+else-out-at+then-out-at-2 w ↦ no_room_lem a.bytes.now a.out.now a.at (omega arith)
    ]

pub returns : goal.returns
returns c = adds c.args.out.now c.args.at (omega arith) (omega arith) c.put_bytes.ensures
