-- `by_characters` meets its contract: what is passed is valid, the ASCII at first too, and where no step can be made it is the longest.
use Rattle.std.proofs.Common.{◌-◌, length}
use Rattle.utf8.specs.Valid.{Valid}
use Rattle.utf8.proofs.characters.by_characters.Given as goal

abbrev pub invariant-loop-step : goal.invariant-loop-step
invariant-loop-step g l = Valid l.s l.at

abbrev pub decreases-loop-step : goal.decreases-loop-step
decreases-loop-step g l = length l.s - l.at
