-- `batch::add_up` meets its contract: the total is the sum of the lengths so far, each of them below 2^32, so that 4,096 of them stay below 2^44.
use Rattle.std.proofs.Common.{◌≡◌, ◌*◌, ◌≤◌, take}
use Rattle.paper.specs.Tally.{sum}
use Rattle.batch.proofs.add_up.Given as goal

abbrev pub invariant-loop-length : goal.invariant-loop-length
invariant-loop-length l = (l.total ≡ sum (take l.length-index l.lengths)) × (l.total ≤ 4294967295 * l.length-index)
