-- What the code's records, states and answers say, in the paper's terms.
use Rattle.std.specs.Prelude.{◌≡◌, ℕ, ◌+◌, ◌≤◌, List, Option, None, Some, Result, Ok, Err}
use Rattle.paper.specs.Answer as paper-answer
use Rattle.paper.specs.Answer.{accepted, refused}
use Rattle.paper.specs.Replay as paper
use Rattle.paper.specs.Replay.{log_record, record_of, none, counter, closed, opened, state, ran, stopped, does, within64}
use Rattle.wire.specs.Refusals.{row}
use Rattle.wire.specs.declared.refusal.Refusal.{Refusal}
use Rattle.replay.specs.declared.Transfer.{Transfer}
use Rattle.replay.specs.declared.State.{State}
use Rattle.replay.specs.declared.LogRecord.{LogRecord}
use Rattle.replay.specs.declared.Stopped.{Stopped}

abbrev pub last_of : Option ℕ → paper.Last
last_of None = none
last_of (Some c) = counter c

abbrev pub transfer_of : Transfer → paper.Transfer
transfer_of Transfer.Closed = closed
transfer_of (Transfer.Open last) = opened (last_of last)

abbrev pub state_of : State → paper.State
state_of st = state (transfer_of st.transfer) st.repeats st.total

abbrev pub meant : LogRecord → paper.LogRecord
meant r = log_record r.service r.kind_or_counter r.payload

-- the record that some bytes are
pub record IsRecord (bytes : List ℕ) (r : LogRecord) : Type 0 where
  pub right : meant r ≡ record_of bytes
  pub short : r.payload ≤ 65535

abbrev pub step_said : Result State Refusal → paper-answer.Answer paper.State
step_said (Ok st) = accepted (state_of st)
step_said (Err e) = refused (row e)

abbrev pub ended_said : Result State Stopped → paper.Ended
ended_said (Ok st) = ran (state_of st)
ended_said (Err e) = stopped (row e.refusal) (state_of e.before)

-- a transfer beside so many repeats and bytes more, where 64 bits hold them
abbrev pub with_more : State → Transfer → ℕ → ℕ → paper-answer.Answer paper.State
with_more st t repeats bytes = within64 (accepted (state (transfer_of t) (st.repeats + repeats) (st.total + bytes)))

-- what a service does
abbrev pub served : paper.Service → State → LogRecord → ℕ → paper-answer.Answer paper.State
served s st r place = within64 (does s (transfer_of st.transfer) place (meant r) (state_of st))
