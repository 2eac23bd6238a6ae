-- `batch::add_up` meets its contract: a length more, and all lengths.
use mathlib.Core.Path.{refl}
use native.Mathlib.Omega.{arith}
use Rattle.paper.specs.Tally.{sum}
use Rattle.batch.proofs.Turns.{one_more_lem, all_of}
use Rattle.batch.proofs.add_up.Goals as goal

pub loop-length-init : goal.loop-length-init
unfolding sum
loop-length-init c = (refl, omega arith)

pub loop-length-preserved : goal.loop-length-preserved
loop-length-preserved c =
    let l = c.loop-length in
    (one_more_lem _ l.length-index c.loop-length-test.true l.invariant.0, omega (arith, c.type_inv.lengths l.length-index))

pub returns : goal.returns
returns c = all_of _ c.loop-length.length-index c.loop-length-test.false c.loop-length.invariant.0
