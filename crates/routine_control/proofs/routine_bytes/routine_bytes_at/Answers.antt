-- `routine_control::routine_bytes::routine_bytes_at` meets its contract: fewer than three bytes are left, or all three are there.
use native.Mathlib.Omega.{arith}
use borrow.Author.Rules.{rules}
use Rattle.routine_control.proofs.Cases.{bytes-short, bytes_there}
use Rattle.routine_control.proofs.routine_bytes.routine_bytes_at.Goals as goal

pub returns-then-available-lt3 : goal.returns-then-available-lt3
returns-then-available-lt3 c = let a = c.args in record { paper = bytes-short a.s.now a.at _ c.available_at-available.ensures (search rules); place = tt }

pub returns : goal.returns
returns c =
    let a = c.args in
    record { paper = rw c.from_be_bytes.ensures (bytes_there a.s.now a.at (omega arith)); place = search rules }
