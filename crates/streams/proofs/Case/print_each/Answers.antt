-- `print_each` meets its contract: one more file behind those before it.
use Rattle.streams.specs.Cases.{none, then}
use Rattle.streams.proofs.Case.print_each.Goals as goal

pub loop-i-init : goal.loop-i-init
loop-i-init g c = none

pub loop-i-preserved : goal.loop-i-preserved
loop-i-preserved g c = then c.loop-i.invariant c.in_ok-print_argument.ensures
