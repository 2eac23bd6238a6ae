-- `chart_text::bars::put_months` meets its contract: a month more, and all months.
use Prim.Native.Nat.{◌+◌}
use mathlib.Core.Path.{refl}
use native.Mathlib.Omega.{arith}
use borrow.Author.Rules.{rules}
use lib.ListN.{drop}
use Rattle.paper.specs.Chart.{months_from}
use Rattle.form.specs.Text.{grown}
use Rattle.form.proofs.Grown.{on}
use Rattle.chart_text.proofs.Drawn.{months-more, months-none}
use Rattle.chart_text.proofs.bars.put_months.Goals as goal

pub loop-month-init : goal.loop-month-init
loop-month-init c = (omega arith, refl)

pub loop-month-preserved : goal.loop-month-preserved
loop-month-preserved c =
    let put = c.put_month-end.ensures in
    let l = c.loop-month in
    let a = c.args in
    (omega (arith, put.bound), on _ (months_from a.top.percent (l.month + 1) (drop (l.month + 1) a.table)) (months-more a.table l.month (search rules) a.top.percent) l.invariant.1 put)

pub returns : goal.returns
unfolding grown
returns c =
    let l = c.loop-month in
    let a = c.args in
    record { right = rw (months-none a.table l.month (search rules) a.top.percent l.month) at l.invariant.1; bound = omega arith }
