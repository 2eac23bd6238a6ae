-- What the paper's runs have to do with the history holds of every call of `run`, whatever it answered.
-- Assumes nothing.
use Rattle.std.proofs.Common.{◌≡◌, length, ap, ◌∙◌, Result}
use contract.Lifetimes.{Lfts}
use denote.Triple.Clauses.{AtExit}
use borrow.Fn.Kinds.{Dens, ended_of}
use Rattle.paper.specs.Replay.{Ended, state_in, history, new_blocks, repeated_blocks, payloads}
use Rattle.paper.proofs.Replay as paper
use Rattle.replay.specs.Replay.{ended_said}
use Rattle.replay.specs.declared.State.{State}
use Rattle.replay.specs.declared.Stopped.{Stopped}
use Rattle.replay.proofs.run.Kinds as run-kinds
use Rattle.replay.proofs.run.Reads as run

module _ (κs : Lfts 1) (a : Dens κs run-kinds.ps) (x : AtExit (ended_of 1 run-kinds.ps run-kinds.r) κs) (r : Result State Stopped) (kept : run.Post κs a r x) where
  -- its total is the sum of payloads of accepted new blocks in the history
  pub run_total : (state_in (ended_said r)).total ≡ payloads (new_blocks (history a.0.now))
  run_total = ap (λ (e : Ended). (state_in e).total) kept ∙ paper.total-is a.0.now

  -- its repeats are those of the history
  pub run_repeats : (state_in (ended_said r)).repeats ≡ length (repeated_blocks (history a.0.now))
  run_repeats = ap (λ (e : Ended). (state_in e).repeats) kept ∙ paper.repeats_are a.0.now
