-- The fields of a state's line, put together, are its text.
-- Assumes nothing.
use mathlib.Core.Path.{◌≡◌}
use Prim.Native.Nat.{ℕ}
use mathlib.Core.List.{List, ◌++◌, append_assoc}
use Rattle.paper.specs.Replay.{State}
use Rattle.paper.specs.ReadingProgram.{decimal, ascii}
use Rattle.paper.specs.ReplayProgram.{transfer_text, state_text}

-- six parts, regrouped
six : (a b c d e f : List ℕ) → ((a ++ (b ++ c)) ++ (d ++ e)) ++ f ≡ a ++ (b ++ (c ++ (d ++ (e ++ f))))
six a b c d e f = simp append_assoc

pub state-is : (st : State) → ((transfer_text st.transfer ++ (ascii " repeats " ++ decimal st.repeats)) ++ (ascii " total " ++ decimal st.total)) ++ ascii "\n" ≡ state_text st
unfolding state_text
state-is st = six (transfer_text st.transfer) (ascii " repeats ") (decimal st.repeats) (ascii " total ") (decimal st.total) (ascii "\n")
