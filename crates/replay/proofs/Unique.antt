-- No second answer meets the contract of the conversion of a record, of `start`, `step` or `run`: the refusal, the place and the state are settled.
-- Assumes nothing.
use Rattle.std.proofs.Common.{◌≡◌, ℕ, sym, refl, ap, ◌∙◌, ap₂, Option, None, Some, Result, Ok, Err}
use Rattle.paper.specs.Answer.{Answer, accepted, refused}
use Rattle.paper.specs.Replay as paper
use Rattle.paper.specs.Replay.{none, counter, closed, opened, ran, stopped}
use Rattle.wire.specs.declared.refusal.Refusal.{Refusal}
use Rattle.wire.proofs.Refusals.{refusal_back, refusal-back}
use Rattle.wire.proofs.Unique.{Determined}
use Rattle.replay.specs.Replay.{last_of, transfer_of, state_of, step_said, ended_said}
use Rattle.replay.specs.declared.Transfer.{Transfer}
use Rattle.replay.specs.declared.State.{State}
use Rattle.replay.specs.declared.LogRecord.{LogRecord}
use Rattle.replay.specs.declared.Stopped.{Stopped}
use Rattle.replay.proofs.LogRecordFromArrayU84 as record_from_bytes
use Rattle.replay.proofs.State.start.Kinds as start-kinds
use Rattle.replay.proofs.State.start.Reads as start
use Rattle.replay.proofs.step.Kinds as step-kinds
use Rattle.replay.proofs.step.Reads as step
use Rattle.replay.proofs.run.Kinds as run-kinds
use Rattle.replay.proofs.run.Reads as run

-- the record that the paper's stands for; each of them is one
abbrev record_back : paper.LogRecord → LogRecord
record_back r = record { service = r.service; kind_or_counter = r.kind_or_counter; payload = r.payload }

pub record_from_determined : Determined 0 record_from_bytes.from.Kinds.ps record_from_bytes.from.Kinds.r record_from_bytes.from.Reads.Post
record_from_determined κs a x y r₁ r₂ p q = ap record_back (p.right ∙ sym q.right)

-- the state that the paper's stands for
abbrev pub last_back : paper.Last → Option ℕ
last_back none = None
last_back (counter c) = Some c

abbrev pub transfer_back : paper.Transfer → Transfer
transfer_back closed = Transfer.Closed
transfer_back (opened last) = Transfer.Open (last_back last)

abbrev pub state_back : paper.State → State
state_back st = record { transfer = transfer_back st.transfer; repeats = st.repeats; total = st.total }

last-back : (x : Option ℕ) → last_back (last_of x) ≡ x
last-back None = refl
last-back (Some c) = refl

transfer-back : (x : Transfer) → transfer_back (transfer_of x) ≡ x
transfer-back Transfer.Closed = refl
transfer-back (Transfer.Open last) = ap Transfer.Open (last-back last)

pub state-back : (x : State) → state_back (state_of x) ≡ x
state-back x = ap (λ (t : Transfer). record { transfer = t; repeats = x.repeats; total = x.total }) (transfer-back x.transfer)

pub start_determined : Determined 0 start-kinds.ps start-kinds.r start.Post
start_determined κs a x y r₁ r₂ p q = sym (state-back r₁) ∙ ap state_back (p ∙ sym q) ∙ state-back r₂

-- the answer that the paper's stands for
abbrev step_back : Answer paper.State → Result State Refusal
step_back (accepted st) = Ok (state_back st)
step_back (refused e) = Err (refusal_back e)

step_back_lem : (r : Result State Refusal) → step_back (step_said r) ≡ r
step_back_lem (Ok st) = ap Ok (state-back st)
step_back_lem (Err e) = ap Err (refusal-back e)

pub step_determined : Determined 0 step-kinds.ps step-kinds.r step.Post
step_determined κs a x y r₁ r₂ p q = sym (step_back_lem r₁) ∙ ap step_back (p ∙ sym q) ∙ step_back_lem r₂

abbrev stopped_at : Refusal → State → Stopped
stopped_at e st = record { refusal = e; before = st }

abbrev ended_back : paper.Ended → Result State Stopped
ended_back (ran st) = Ok (state_back st)
ended_back (stopped e st) = Err (stopped_at (refusal_back e) (state_back st))

ended-back : (r : Result State Stopped) → ended_back (ended_said r) ≡ r
ended-back (Ok st) = ap Ok (state-back st)
ended-back (Err e) = ap Err (ap₂ stopped_at (refusal-back e.refusal) (state-back e.before))

pub run_determined : Determined 1 run-kinds.ps run-kinds.r run.Post
run_determined κs a x y r₁ r₂ p q = sym (ended-back r₁) ∙ ap ended_back (p ∙ sym q) ∙ ended-back r₂
