-- The fields are compared one by one, and at last the tail with the end.
use Rattle.std.proofs.Common.{rules}
use Rattle.bench_cases.proofs.Judged.{all_taken}
use Rattle.bench_cases.proofs.rows.response_is.Goals as goal

pub returns-then-q-eq0 : goal.returns-then-q-eq0
returns-then-q-eq0 c =
    let taken = all_taken c.args.s.now c.in-Ok.tail c.in-Ok.ensures.place.within in
    search rules
