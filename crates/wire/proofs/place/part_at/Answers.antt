-- `wire::place::part_at` meets its contract: of each branch's part, where it begins and what it holds.
use native.Mathlib.Omega.{arith}
use Rattle.wire.proofs.Parts.{part-within, part_to_end, part_past}
use Rattle.wire.proofs.place.part_at.Goals as goal

pub returns-then-len-s : goal.returns-then-len-s
returns-then-len-s c = let a = c.args in part-within a.s a.place.start a.place.len (omega arith)

pub returns-else-len-s : goal.returns-else-len-s
returns-else-len-s c = let a = c.args in part_to_end a.s a.place.start a.place.len (omega arith) (omega arith)

pub returns-else-start-s : goal.returns-else-start-s
returns-else-start-s c = let a = c.args in part_past a.s a.place.start a.place.len (omega arith)
