-- How far the run of a log has come.
use Rattle.std.specs.Prelude.{◌≡◌, ℕ, ◌+◌, ◌-◌, ◌*◌, ◌^◌, ◌<◌, ◌≤◌, List, length, drop, map}
use Rattle.paper.specs.Replay.{LogRecord, record_of, run_from}
use Rattle.replay.specs.Replay.{state_of}
use Rattle.replay.specs.declared.State.{State}

abbrev pub records : List (List ℕ) → List LogRecord
records = map record_of

-- what is left of a log is its end
abbrev pub IsEnd : (left rows : List (List ℕ)) → Type 0
IsEnd left rows = left ≡ drop (length rows - length left) rows

-- 64 bits hold what n more records may count
pub record HoldsMore (st : State) (n : ℕ) : Type 0 where
  pub few : st.repeats + n < 2 ^ 64
  pub short : st.total + 65535 * n < 2 ^ 64

-- a run that had come to place k of a log has come to another: it has counted no more than the records between have, and what is left leads where all of them do
pub record Passes (k : ℕ) (st : State) (rows : List (List ℕ)) (at : ℕ) (reached : State) (left : List (List ℕ)) : Type 0 where
  pub within : at + length left ≡ k + length rows
  pub few : reached.repeats + k ≤ st.repeats + at
  pub short : reached.total + 65535 * k ≤ st.total + 65535 * at
  pub leads : run_from k (records rows) (state_of st) ≡ run_from at (records left) (state_of reached)
