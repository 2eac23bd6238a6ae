-- The blocks so far have led to the transfer that is open, with the counter of the last of them, and what is left is the log's end; the measure is how much.
use Rattle.std.proofs.Common.{ℕ, length}
use Rattle.replay.specs.Run.{IsEnd, Passes}
use Rattle.replay.proofs.Runs.{open_at}
use Rattle.replay.proofs.blocks_from.Given as goal

abbrev pub invariant-loop-bytes : goal.invariant-loop-bytes
invariant-loop-bytes l = record {
  end : IsEnd l.rest l.fn.log;
  led : (k : ℕ) → (at : ℕ) × Passes k l.fn.state l.fn.log at (open_at l.last l.repeats l.total) l.rest;
}

abbrev pub decreases-loop-bytes : goal.decreases-loop-bytes
decreases-loop-bytes l = length l.rest
