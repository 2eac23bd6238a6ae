-- `loads_text::row::sum_from` meets its contract. The invariant: the counts that are still to come, added to the sum so far, make the sum that is promised.
use Rattle.std.proofs.Common.{◌≡◌, ◌+◌, ◌*◌, ◌≤◌, drop}
use Rattle.paper.specs.Tally.{sum}
use Rattle.loads_text.proofs.row.sum_from.Given as goal

abbrev pub invariant-loop-count : goal.invariant-loop-count
invariant-loop-count l = (l.total + sum (drop l.count-index l.counts) ≡ sum l.counts) × (l.total ≤ 4294967295 * l.count-index)
