-- Document 02, Req 04: the text that the program `replay_log` prints, in ASCII. Its words for a refusal are the reading program's.
use Rattle.std.specs.Prelude.{ℕ, List, ◌++◌}
use Rattle.paper.specs.Replay.{Last, none, counter, Transfer, closed, opened, State, Ended, ran, stopped, replayed}
use Rattle.paper.specs.ReadingProgram.{bad, decimal, ascii, text_of}

-- the last counter, or `-` where there is none
abbrev pub last_text : Last → List ℕ
last_text none = ascii "-"
last_text (counter c) = decimal c

-- `open last C`, `open last -` or `closed last -`
abbrev pub transfer_text : Transfer → List ℕ
transfer_text closed = ascii "closed last -"
transfer_text (opened last) = ascii "open last " ++ last_text last

-- that, then ` repeats R total T` and a line feed
unfoldable pub state_text : State → List ℕ
state_text st = transfer_text st.transfer ++ (ascii " repeats " ++ (decimal st.repeats ++ (ascii " total " ++ (decimal st.total ++ ascii "\n"))))

-- the state; of a refusal `refused N A B`, and on a second line the state before it
abbrev pub ended_text : Ended → List ℕ
ended_text (ran st) = state_text st
ended_text (stopped e st) = text_of (bad e) ++ state_text st

unfoldable pub replay_text : List ℕ → List ℕ
replay_text s = ended_text (replayed s)
