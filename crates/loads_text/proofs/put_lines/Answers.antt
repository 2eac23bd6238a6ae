-- `loads_text::put_lines` meets its contract: the line of a month more, and of all months.
use Prim.Native.Nat.{◌+◌}
use mathlib.Core.Path.{refl}
use native.Mathlib.Omega.{arith}
use borrow.Author.Rules.{rules}
use lib.ListN.{drop}
use Rattle.form.specs.Text.{grown}
use Rattle.paper.specs.WrongLoads.{lines_from}
use Rattle.form.proofs.Grown.{on}
use Rattle.loads_text.proofs.Rows.{lines_more, lines_none}
use Rattle.loads_text.proofs.put_lines.Goals as goal

pub loop-m-init : goal.loop-m-init
loop-m-init c = (omega arith, refl)

pub loop-m-preserved : goal.loop-m-preserved
loop-m-preserved c =
    let put = c.put_month-end.ensures in
    let l = c.loop-m in
    let table = c.args.table in
    (omega (arith, put.bound), on _ (lines_from (l.m + 1 + 1) (drop (l.m + 1) table)) (lines_more table l.m (search rules)) l.invariant.1 put)

pub returns : goal.returns
unfolding grown
returns c =
    let l = c.loop-m in
    record { right = rw (lines_none c.args.table (l.m + 1) l.m (search rules)) at l.invariant.1; bound = omega arith }
