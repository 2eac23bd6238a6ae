-- `batch::read_batch` meets its contract: after k turns the list has the numbers of the first k messages over its front, and the next message begins where their lengths,
-- added up, end.
use Rattle.std.proofs.Common.{◌≡◌, take}
use Rattle.paper.specs.Tally.{sum}
use Rattle.batch.proofs.Turns.{SoFar}
use Rattle.batch.proofs.read_batch.Given as goal

abbrev pub invariant-loop-k : goal.invariant-loop-k
invariant-loop-k l = (l.at ≡ sum (take l.k l.lengths)) × SoFar l.buffer l.lengths l.initial.list l.k l.list
