-- `fitting_blocks` meets its contract: what is passed fits, and each block adds to it.
use Rattle.std.proofs.Common.{◌-◌, length}
use Rattle.utf8.specs.Fit.{Fitting}
use Rattle.utf8.proofs.blocks.fitting_blocks.Given as goal

abbrev pub invariant-loop-block : goal.invariant-loop-block
invariant-loop-block l = Fitting l.s l.at

abbrev pub decreases-loop-block : goal.decreases-loop-block
decreases-loop-block l = length l.s - l.at
