-- The records so far led to the state, and what is left, the log's end, leads where all of them do; the measure is what is left of the log.
use Rattle.std.proofs.Common.{◌-◌, length}
use Rattle.replay.specs.Run.{IsEnd, Passes}
use Rattle.replay.proofs.run_records.Given as goal

abbrev pub invariant-loop-bytes : goal.invariant-loop-bytes
invariant-loop-bytes l = record {
  end : IsEnd l.rest l.log;
  led : Passes 0 l.initial.state l.log (length l.log - length l.rest) l.state l.rest;
}

abbrev pub decreases-loop-bytes : goal.decreases-loop-bytes
decreases-loop-bytes l = length l.rest
