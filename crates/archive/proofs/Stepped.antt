-- One record after a state: what a step answers, with the state that stands beside it.
-- Assumes nothing.
use mathlib.Core.Path.{◌≡◌, ap}
use Prim.Native.Nat.{ℕ}
use Rattle.paper.specs.Answer.{Refusal, Answer, accepted, refused}
use Rattle.paper.specs.Replay.{LogRecord, State, ran, stopped, after, stepped, within64, stepped_once}

module _ (place : ℕ) (st : State) (r : LogRecord) where
  -- the record is accepted
  pub once_accepted : {t : State} → accepted t ≡ within64 (stepped place st r) → ran t ≡ stepped_once place st r
  unfolding stepped_once
  once_accepted e = ap (λ (a : Answer State). after a st ran) e

  -- it is refused: the state is as it was
  pub once_refused : {x : Refusal} → refused x ≡ within64 (stepped place st r) → stopped x st ≡ stepped_once place st r
  unfolding stepped_once
  once_refused e = ap (λ (a : Answer State). after a st ran) e
