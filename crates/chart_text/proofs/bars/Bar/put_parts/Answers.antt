-- `chart_text::bars::Bar::put_parts` meets its contract: a part more, and all parts.
use Prim.Native.Nat.{◌+◌}
use mathlib.Core.Path.{refl}
use native.Mathlib.Omega.{arith}
use borrow.Author.Rules.{rules}
use lib.ListN.{drop, get_or}
use Rattle.paper.specs.WrongLoads.{all}
use Rattle.paper.specs.Chart.{parts_from}
use Rattle.form.specs.Text.{grown}
use Rattle.form.proofs.Grown.{on}
use Rattle.chart_text.proofs.Drawn.{parts_more, parts_none}
use Rattle.chart_text.proofs.bars.Bar.put_parts.Goals as goal

pub loop-number-init : goal.loop-number-init
loop-number-init c = record { few = omega arith; bound = omega arith; goes_on = refl }

pub loop-number-preserved : goal.loop-number-preserved
loop-number-preserved c =
    let put = c.put_part-end.ensures in
    let count = c.from-count.ensures in
    let l = c.loop-number in
    let bar = c.args.self in
    record {
      few = omega arith;
      bound = omega (arith, put.bound);
      goes_on = rw count (on _ (parts_from bar.month bar.top.percent (all bar.row) (l.number + 1) (l.below + get_or bar.row l.number 0) (drop (l.number + 1) bar.row)) (parts_more bar.month bar.top.percent (all bar.row) l.below bar.row l.number (search rules)) l.invariant.goes_on (rw count at put));
    }

pub returns : goal.returns
unfolding grown
returns c =
    let l = c.loop-number in
    let bar = c.args.self in
    record { right = rw (parts_none bar.month bar.top.percent (all bar.row) l.number l.below bar.row l.number (search rules)) at l.invariant.goes_on; bound = omega arith }
