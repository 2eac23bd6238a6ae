-- The bytes that were written are compared, and then the tail with the end.
use Rattle.std.proofs.Common.{rules}
use Rattle.bench_cases.proofs.Judged.{all_taken, written}
use Rattle.bench_cases.proofs.rows.rewritten_to.Goals as goal

pub returns-then-eq : goal.returns-then-eq
returns-then-eq c =
    let w = written c.in-Ok.ensures in
    let taken = all_taken c.args.s.now c.in-Ok.tail c.in-Ok.ensures.place in
    search rules

pub returns-else-eq : goal.returns-else-eq
returns-else-eq c = let w = written c.in-Ok.ensures in search rules
