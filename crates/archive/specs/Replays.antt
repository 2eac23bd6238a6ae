-- What the record of a recorded transfer holds, beside a refusal too: the three numbers and the state. And the state that C hands over.
use Rattle.std.specs.Prelude.{ℕ, Bool}
use Rattle.paper.specs.Choice.{pick}
use Rattle.paper.specs.Replay.{Transfer, Last, State, Ended, none, counter, closed, opened, state, ran, stopped}
use Rattle.archive.specs.declared.replays.ReplayRecord.{ReplayRecord}

-- 1 where a transfer is open
abbrev pub open_of : Transfer → ℕ
open_of closed = 0
open_of (opened last) = 1

-- the last counter, none once closed; 1 where there is one; and the counter, or 0
abbrev pub last_in : Transfer → Last
last_in closed = none
last_in (opened last) = last

abbrev pub has_last : Last → ℕ
has_last none = 0
has_last (counter c) = 1

abbrev pub counter_of : Last → ℕ
counter_of none = 0
counter_of (counter c) = c

abbrev pub state_record : (number first second : ℕ) → State → ReplayRecord
state_record n a b st = record {
  number = n;
  first = a;
  second = b;
  «open» = open_of st.transfer;
  has_last = has_last (last_in st.transfer);
  last = counter_of (last_in st.transfer);
  repeats = st.repeats;
  total = st.total;
}

-- the state at the end, or a refusal and the state before it
abbrev pub replay_record : Ended → ReplayRecord
replay_record (ran st) = state_record 0 0 0 st
replay_record (stopped e st) = state_record e.number e.first e.second st

-- ---- what is handed over
-- a state: the last counter is looked at only where the transfer is open and has one
abbrev pub transfer_handed : (isOpen has_last : Bool) (last : ℕ) → Transfer
transfer_handed o h c = pick o (opened (pick h (counter c) none)) closed

abbrev pub state_handed : (isOpen has_last : Bool) (last repeats total : ℕ) → State
state_handed o h c n m = state (transfer_handed o h c) n m
