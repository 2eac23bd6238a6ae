-- `loads_text::row::sum_from` meets its contract: one count more, and all counts; past the row there is none.
use native.Mathlib.Omega.{arith}
use Rattle.loads_text.proofs.Rows.{sum_more, sum-none, sum_rest, sum_past}
use Rattle.loads_text.proofs.row.sum_from.Goals as goal

pub returns-in_default-clause-value : goal.returns-in_default-clause-value
returns-in_default-clause-value c = sum_past c.args.row c.args.first c.in_default.ensures.lookup.0

pub loop-count-preserved : goal.loop-count-preserved
loop-count-preserved c =
    let l = c.loop-count in
    (omega (arith, sum_more c.in-Some.counts.now l.count-index c.loop-count-test.true), omega arith)

pub returns-clause-value : goal.returns-clause-value
returns-clause-value c =
    let counts = c.in-Some.counts.now in
    let end = sum-none counts c.loop-count.count-index c.loop-count-test.false in
    let rest = sum_rest c.args.row c.args.first c.in-Some.ensures.lookup.0.2 in
    omega arith
