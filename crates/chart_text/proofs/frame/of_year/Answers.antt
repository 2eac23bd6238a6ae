-- `chart_text::frame::of_year` meets its contract: the records of a month more, and of all months.
use native.Mathlib.Omega.{arith}
use borrow.Author.Rules.{rules}
use Rattle.chart_text.proofs.Drawn.{year_more, year_none}
use Rattle.chart_text.proofs.frame.of_year.Goals as goal

pub loop-row-preserved : goal.loop-row-preserved
loop-row-preserved c =
    let a = c.args in
    let counts = c.sum_from-total.ensures in
    (omega (arith, year_more a.table c.loop-row.row-index (search rules) a.first, counts.value), omega (arith, counts.upper_bound))

pub returns : goal.returns
returns c =
    let a = c.args in
    (omega (arith, year_none a.table c.loop-row.row-index (search rules) a.first), omega arith)
